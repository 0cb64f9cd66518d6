use Rattle.std.proofs.Common.{◌≡◌, ◌∙◌, ◌+◌, ℕ, ap, arith, min}
use Rattle.abc_file_types.specs.Instructions.{pieces}
use Rattle.abc_instr.specs.Reading.{IsReading}
use Rattle.abc_instr.proofs.Ended.{read_within}
use Rattle.abc_instr.proofs.reading.read_within.Goals as goal

pub returns-clause-value : goal.returns-clause-value
returns-clause-value g c =
    let w = c.args.w.now in
    let n = c.args.byte_count in
    let end : c.min-end.result ≡ min w.end (w.place + n) = omega (arith, c.min-end.ensures, c.end-outer.ensures, c.place.ensures.is) in
    read_within (pieces n).reads n w (g.S.Source.left c.args.source.now) c.read_until-done.new.w (g.S.Source.left c.read_until-done.new.source) c.set_end.new.self c.set_end-2.new.self
    (c.set_end.ensures ∙ ap (λ (e : ℕ). record w { end = e }) end) (c.set_end-2.ensures ∙ ap (λ (e : ℕ). record c.read_until-done.new.w { end = e }) c.end-outer.ensures)
    IsReading c.read_until-done.new.reading c.read_until-done.result c.read_until-done.ensures.value
