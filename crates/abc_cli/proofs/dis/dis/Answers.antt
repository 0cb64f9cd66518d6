use Rattle.std.proofs.lemmas.Result.{err_from_is_err_and}
use Rattle.abc_cli_answers.specs.End.{stream}
use Rattle.abc_cli_answers.specs.Answers.{OfFile}
use Rattle.abc_text_lines.specs.Listing.{listing}
use Rattle.abc_cli.specs.Outcome.{Dis}
use Rattle.abc_cli.proofs.Files.{alone, on_file, read_stops, written_gives}
use Rattle.abc_cli.proofs.dis.dis.Goals as goal

pub returns-clause-gives : goal.returns-clause-gives
returns-clause-gives g c = written_gives listing (stream g.S.Source.left g.S.Source.faults c.args.source.now c.listing_of.new.source) c.in_ok-text.text.items c.in_ok-text.ensures.text c.in_ok-text.ensures.end

pub returns-in_err-text-clause-stops : goal.returns-in_err-text-clause-stops
returns-in_err-text-clause-stops g c =
    let p = err_from_is_err_and c.from_residual.result c.from_residual.ensures.1 in
    rw (p.1, p.2) (read_stops (OfFile Dis) (alone Dis) (on_file Dis) (stream g.S.Source.left g.S.Source.faults c.args.source.now c.listing_of.new.source) c.in_err-text.field-0.0 c.in_err-text.ensures.fault
    (λ e. c.in_err-text.ensures.cause cc))

pub returns-clause-taken : goal.returns-clause-taken
returns-clause-taken g c = c.in_ok-text.ensures.taken

pub returns-in_err-text-clause-taken : goal.returns-in_err-text-clause-taken
returns-in_err-text-clause-taken g c = c.in_err-text.ensures.taken
