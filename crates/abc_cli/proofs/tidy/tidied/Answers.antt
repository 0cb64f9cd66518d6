use Rattle.std.proofs.Common.{◌∙◌, ◌++◌, ap}
use Rattle.std.proofs.lemmas.Result.{err_from_is_err_and}
use Rattle.abc_file_types.specs.Files.{file_bytes}
use Rattle.abc_cli_answers.proofs.Ending.{fits_ready}
use Rattle.abc_cli.proofs.Files.{tidied_gives, tidy_stops_at}
use Rattle.abc_cli.proofs.tidy.tidied.Goals as goal

pub write-requires : goal.write-requires
write-requires c = fits_ready c.in_ok-tidied.tidied c.in_ok-tidied.ensures.fits

pub returns-in_err-tidied-clause-stops : goal.returns-in_err-tidied-clause-stops
returns-in_err-tidied-clause-stops c =
    let p = err_from_is_err_and c.from_residual.result c.from_residual.ensures.1 in
    rw (p.1, p.2) (tidy_stops_at c.args.abc c.in_err-tidied.field-0.0 c.in_err-tidied.ensures)

pub returns-clause-gives : goal.returns-clause-gives
returns-clause-gives c =
    tidied_gives c.args.abc c.in_ok-tidied.tidied c.write.new.out.items c.in_ok-tidied.ensures
    (c.in_ok-write.ensures ∙ ap (λ b. b ++ file_bytes c.in_ok-tidied.tidied) c.new-bytes.ensures.items)
