use Rattle.std.proofs.Common.{◌∙◌, ◌++◌, ap}
use Rattle.std.proofs.lemmas.Result.{err_from_is_err_and}
use Rattle.abc_file_types.specs.Files.{file_bytes}
use Rattle.abc_cli.proofs.Assembling.{asm_stops_at, assembled_gives}
use Rattle.abc_cli.proofs.asm.assembled.Goals as goal

pub write-requires : goal.write-requires
write-requires c = c.texts_have_ready_bodies.ensures c.args.text.now c.in_ok-abc.abc c.in_ok-abc.ensures

pub returns-in_err-abc-clause-stops : goal.returns-in_err-abc-clause-stops
returns-in_err-abc-clause-stops c =
    let p = err_from_is_err_and c.from_residual.result c.from_residual.ensures.1 in
    rw (p.1, p.2) (asm_stops_at c.args.text.now c.in_err-abc.field-0.0 c.requires c.in_err-abc.ensures)

pub returns-clause-gives : goal.returns-clause-gives
returns-clause-gives c =
    assembled_gives c.args.text.now c.write.new.out.items c.in_ok-abc.abc c.requires c.in_ok-abc.ensures
    (c.in_ok-write.ensures ∙ ap (λ b. b ++ file_bytes c.in_ok-abc.abc) c.new-bytes.ensures.items)
