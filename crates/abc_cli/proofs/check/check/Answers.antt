use Rattle.std.proofs.lemmas.Result.{err_from_is_err_and}
use Rattle.abc_cli_answers.specs.Answers.{OfFileRead, Unverified}
use Rattle.abc_cli_answers.specs.End.{stream}
use Rattle.abc_cli.specs.Outcome.{Check}
use Rattle.abc_cli_answers.specs.Stops.{stop_of_verified}
use Rattle.abc_cli.proofs.Checks.{unverified_checked, verified_gives}
use Rattle.abc_cli_answers.proofs.Unverified.{verified_stops}
use Rattle.abc_cli_answers.proofs.Ending.{stops_as}
use Rattle.abc_cli.proofs.check.check.Goals as goal

pub returns-in_err-verified-clause-stops : goal.returns-in_err-verified-clause-stops
returns-in_err-verified-clause-stops g c =
    let p = err_from_is_err_and c.from_residual.result c.from_residual.ensures.1 in
    let source = stream g.S.Source.left g.S.Source.faults c.args.source.now c.read_verified.new.source in
    rw (p.1, p.2) (stops_as (OfFileRead Unverified) (OfFileRead Check) source (stop_of_verified c.in_err-verified.field-0.0) unverified_checked
    (verified_stops source c.in_err-verified.field-0.0 c.in_err-verified.ensures.refused (λ e. c.in_err-verified.ensures.cause cc)))

pub returns-clause-gives : goal.returns-clause-gives
returns-clause-gives g c =
    verified_gives (stream g.S.Source.left g.S.Source.faults c.args.source.now c.read_verified.new.source) c.in_ok-verified.verified c.in_ok-verified.field-0-1 c.in_ok-bytes.bytes.items c.body_count-count.result c.in_ok-verified.ensures.ok
    c.in_ok-verified.ensures.end c.in_ok-bytes.ensures c.body_count-count.ensures

pub returns-clause-taken : goal.returns-clause-taken
returns-clause-taken g c = c.in_ok-verified.ensures.taken

pub returns-in_err-verified-clause-taken : goal.returns-in_err-verified-clause-taken
returns-in_err-verified-clause-taken g c = c.in_err-verified.ensures.taken

pub returns-in_err-bytes-clause-taken : goal.returns-in_err-bytes-clause-taken
returns-in_err-bytes-clause-taken g c = c.in_ok-verified.ensures.taken
