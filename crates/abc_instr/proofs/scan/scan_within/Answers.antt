use Rattle.std.proofs.Common.{◌≡◌, ◌∙◌, ◌+◌, ℕ, ap, arith, min}
use Rattle.abc_file_types.specs.Instructions.{pieces}
use Rattle.abc_instr.proofs.Ended.{scan_within}
use Rattle.abc_instr.proofs.scan.scan_within.Goals as goal

pub returns-clause-value : goal.returns-clause-value
returns-clause-value g c =
    let w = c.args.w.now in
    let n = c.args.byte_count in
    let end : c.min-end.result ≡ min w.end (w.place + n) = omega (arith, c.min-end.ensures, c.end-outer.ensures, c.place.ensures.is) in
    scan_within (pieces n).reads n w (g.S.Source.left c.args.source.now) c.scan_until-done.new.w (g.S.Source.left c.scan_until-done.new.source) c.set_end.new.self c.set_end-2.new.self
    (c.set_end.ensures ∙ ap (λ (e : ℕ). record w { end = e }) end) (c.set_end-2.ensures ∙ ap (λ (e : ℕ). record c.scan_until-done.new.w { end = e }) c.end-outer.ensures)
    c.scan_until-done.new.scan c.scan_until-done.result c.scan_until-done.ensures.value
