use Rattle.std.proofs.lemmas.Result.{err_from_is_err_and}
use Rattle.abc_cli_answers.specs.End.{stream}
use Rattle.abc_cli_answers.specs.Answers.{OfFile}
use Rattle.abc_cli.specs.Outcome.{Tidy}
use Rattle.abc_cli.proofs.Files.{alone, alone_gives, alone_stops_at, on_file, read_stops}
use Rattle.abc_cli.proofs.tidy.tidy.Goals as goal

pub returns-clause-gives : goal.returns-clause-gives
returns-clause-gives g c =
    alone_gives Tidy (stream g.S.Source.left g.S.Source.faults c.args.source.now c.read_alone.new.source) c.in_ok-abc.abc c.in_ok-bytes.bytes.items c.in_ok-abc.ensures.file c.in_ok-abc.ensures.end c.in_ok-bytes.ensures.gives

pub returns-in_err-abc-clause-stops : goal.returns-in_err-abc-clause-stops
returns-in_err-abc-clause-stops g c =
    let p = err_from_is_err_and c.from_residual.result c.from_residual.ensures.1 in
    rw (p.1, p.2) (read_stops (OfFile Tidy) (alone Tidy) (on_file Tidy) (stream g.S.Source.left g.S.Source.faults c.args.source.now c.read_alone.new.source) c.in_err-abc.field-0.0 c.in_err-abc.ensures.fault (λ e. c.in_err-abc.ensures.cause cc))

pub returns-in_err-bytes-clause-stops : goal.returns-in_err-bytes-clause-stops
returns-in_err-bytes-clause-stops g c =
    let p = err_from_is_err_and c.from_residual-in_err-bytes.result c.from_residual-in_err-bytes.ensures.1 in
    rw (p.1, p.2) (alone_stops_at Tidy (stream g.S.Source.left g.S.Source.faults c.args.source.now c.read_alone.new.source) c.in_ok-abc.abc c.in_err-bytes.field-0.0 c.in_ok-abc.ensures.file c.in_err-bytes.ensures.stops)

pub returns-clause-taken : goal.returns-clause-taken
returns-clause-taken g c = c.in_ok-abc.ensures.taken

pub returns-in_err-abc-clause-taken : goal.returns-in_err-abc-clause-taken
returns-in_err-abc-clause-taken g c = c.in_err-abc.ensures.taken

pub returns-in_err-bytes-clause-taken : goal.returns-in_err-bytes-clause-taken
returns-in_err-bytes-clause-taken g c = c.in_ok-abc.ensures.taken
