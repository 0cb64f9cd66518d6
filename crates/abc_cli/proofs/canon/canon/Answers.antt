use Rattle.std.proofs.lemmas.Result.{err_from_is_err_and}
use Rattle.abc_cli_answers.specs.End.{stream}
use Rattle.abc_cli_answers.specs.Answers.{OfFile}
use Rattle.abc_file_types.specs.Files.{file_bytes}
use Rattle.abc_cli.specs.Outcome.{Canon}
use Rattle.abc_cli.proofs.Files.{alone, on_file, read_stops, written_gives}
use Rattle.abc_cli.proofs.canon.canon.Goals as goal

pub returns-clause-gives : goal.returns-clause-gives
returns-clause-gives g c = written_gives file_bytes (stream g.S.Source.left g.S.Source.faults c.args.source.now c.canonical.new.source) c.in_ok-bytes.bytes.items c.in_ok-bytes.ensures.bytes c.in_ok-bytes.ensures.end

pub returns-in_err-bytes-clause-stops : goal.returns-in_err-bytes-clause-stops
returns-in_err-bytes-clause-stops g c =
    let p = err_from_is_err_and c.from_residual.result c.from_residual.ensures.1 in
    rw (p.1, p.2) (read_stops (OfFile Canon) (alone Canon) (on_file Canon) (stream g.S.Source.left g.S.Source.faults c.args.source.now c.canonical.new.source) c.in_err-bytes.field-0.0 c.in_err-bytes.ensures.fault
    (λ e. c.in_err-bytes.ensures.cause cc))

pub returns-clause-taken : goal.returns-clause-taken
returns-clause-taken g c = c.in_ok-bytes.ensures.taken

pub returns-in_err-bytes-clause-taken : goal.returns-in_err-bytes-clause-taken
returns-in_err-bytes-clause-taken g c = c.in_err-bytes.ensures.taken
