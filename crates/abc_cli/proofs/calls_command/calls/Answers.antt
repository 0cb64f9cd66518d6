use Rattle.abc_cli_answers.specs.End.{HasFailed, stream}
use Rattle.abc_cli.proofs.Called.{unverified_calls, verified_calls}
use Rattle.abc_session.proofs.Pieces.{nothing}
use Rattle.abc_cli_answers.proofs.Unverified.{read_is_verified, verified_stops}
use Rattle.abc_cli_answers.proofs.Runs.{unread}
use Rattle.std.proofs.Common.{subst, sym}
use Rattle.abc_cli_answers.specs.Answers.{OfFileRead, Unverified}
use Rattle.abc_cli_answers.specs.Stops.{Stops}
use Rattle.abc_cli_answers.specs.declared.stop.Stop.{Stop}
use Rattle.abc_cli.proofs.calls_command.calls.Goals as goal

pub call_verified-requires-clause-verified : goal.call_verified-requires-clause-verified
call_verified-requires-clause-verified g c = read_is_verified (g.S.Source.left c.args.source.now) c.in-Ok.verified c.in-Ok.places c.in-Ok.ensures.ok

pub returns-in-Ok-clause-end : goal.returns-in-Ok-clause-end
returns-in-Ok-clause-end g c =
    let source = stream g.S.Source.left g.S.Source.faults c.args.source.now c.read_verified.new.source in
    verified_calls c.args.options.now (g.H.Host.formulas c.args.host.now) c.in-Ok.verified c.in-Ok.places (g.S.Source.left c.args.source.now) (HasFailed source) (stream g.K.Sink.written g.K.Sink.faults c.args.out.now c.call_verified.new.out)
    (stream g.E.Sink.written g.E.Sink.faults c.args.err.now c.call_verified.new.err) c.call_verified.result c.in-Ok.ensures.ok c.call_verified.ensures

pub returns-in-Ok-clause-used_up : goal.returns-in-Ok-clause-used_up
returns-in-Ok-clause-used_up g c = λ h. c.in-Ok.ensures.end

pub returns-in-Err-clause-end : goal.returns-in-Err-clause-end
returns-in-Err-clause-end g c =
    let source = stream g.S.Source.left g.S.Source.faults c.args.source.now c.read_verified.new.source in
    unverified_calls c.args.options.now (g.H.Host.formulas c.args.host.now) source (stream g.K.Sink.written g.K.Sink.faults c.args.out.now c.args.out.now)
    (stream g.E.Sink.written g.E.Sink.faults c.args.err.now c.give_stop.new.err) c.from.result c.give_stop.result
    (subst (λ (stop : Stop). Stops (OfFileRead Unverified) source stop) (sym c.from.ensures) (verified_stops source c.in-Err.e c.in-Err.ensures.refused (λ e. c.in-Err.ensures.cause cc)))
    (nothing (g.K.Sink.written c.args.out.now)) c.give_stop.ensures

pub returns-in-Err-clause-used_up : goal.returns-in-Err-clause-used_up
returns-in-Err-clause-used_up g c =
    unread (stream g.S.Source.left g.S.Source.faults c.args.source.now c.read_verified.new.source) (stream g.E.Sink.written g.E.Sink.faults c.args.err.now c.give_stop.new.err) c.from.result c.give_stop.result c.give_stop.ensures

pub returns-in-Ok-clause-taken : goal.returns-in-Ok-clause-taken
returns-in-Ok-clause-taken g c = c.in-Ok.ensures.taken

pub returns-in-Err-clause-taken : goal.returns-in-Err-clause-taken
returns-in-Err-clause-taken g c = c.in-Err.ensures.taken
