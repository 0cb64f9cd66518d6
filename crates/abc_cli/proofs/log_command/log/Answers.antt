use Rattle.std.proofs.Common.{subst, sym}
use Rattle.abc_cli_answers.specs.Answers.{OfFileRead, Unverified}
use Rattle.abc_cli_answers.specs.End.{HasFailed, stream}
use Rattle.abc_cli.specs.Meant.{limits_of}
use Rattle.abc_cli_answers.specs.Stops.{Stops}
use Rattle.abc_cli_answers.specs.declared.stop.Stop.{Stop}
use Rattle.abc_session.proofs.Pieces.{nothing}
use Rattle.abc_cli.proofs.Accepting.{got_log_of, log_accepted}
use Rattle.abc_cli_answers.proofs.Unverified.{read_is_verified, verified_stops}
use Rattle.abc_cli_answers.proofs.Ending.{stop_not_read}
use Rattle.abc_cli.proofs.Logging.{unverified_logs, verified_logs}
use Rattle.abc_cli_answers.proofs.Runs.{unread}
use Rattle.abc_cli.proofs.log_command.log.Goals as goal

pub log_file-requires-clause-verified : goal.log_file-requires-clause-verified
log_file-requires-clause-verified g c = read_is_verified (g.S.Source.left c.args.source.now) c.in-Ok.verified c.in-Ok.places c.in-Ok.ensures.ok

pub returns-in-Ok-clause-end : goal.returns-in-Ok-clause-end
returns-in-Ok-clause-end g c =
    let source = stream g.S.Source.left g.S.Source.faults c.args.source.now c.read_verified.new.source in
    verified_logs c.args.options.now (g.H.Host.formulas c.args.host.now) c.in-Ok.verified c.in-Ok.places (g.S.Source.left c.args.source.now) (HasFailed source) (stream g.K.Sink.written g.K.Sink.faults c.args.out.now c.log_file.new.out)
    (stream g.E.Sink.written g.E.Sink.faults c.args.err.now c.log_file.new.err) c.log_file.result c.in-Ok.ensures.ok c.log_file.ensures

pub returns-in-Ok-clause-used_up : goal.returns-in-Ok-clause-used_up
returns-in-Ok-clause-used_up g c = λ h. c.in-Ok.ensures.end

pub returns-in-Ok-clause-logged : goal.returns-in-Ok-clause-logged
returns-in-Ok-clause-logged g c = λ within read.
    let o = c.args.options.now in
    let fs = g.H.Host.formulas c.args.host.now in
    let out = stream g.K.Sink.written g.K.Sink.faults c.args.out.now c.log_file.new.out in
    let got = got_log_of c.in-Ok.verified fs o.fuel (limits_of o) c.in-Ok.places out (stream g.E.Sink.written g.E.Sink.faults c.args.err.now c.log_file.new.err) c.log_file.result
    (read_is_verified (g.S.Source.left c.args.source.now) c.in-Ok.verified c.in-Ok.places c.in-Ok.ensures.ok) (g.met.H.Host.formed c.args.host.now) c.log_file.ensures read in
    log_accepted c.one_replay.ensures.one_number c.one_replay.ensures.never_both fs o.fuel (limits_of o) out within got

pub returns-in-Err-clause-end : goal.returns-in-Err-clause-end
returns-in-Err-clause-end g c =
    let source = stream g.S.Source.left g.S.Source.faults c.args.source.now c.read_verified.new.source in
    unverified_logs c.args.options.now (g.H.Host.formulas c.args.host.now) source (stream g.K.Sink.written g.K.Sink.faults c.args.out.now c.args.out.now)
    (stream g.E.Sink.written g.E.Sink.faults c.args.err.now c.give_stop.new.err) c.from.result c.give_stop.result
    (subst (λ (stop : Stop). Stops (OfFileRead Unverified) source stop) (sym c.from.ensures) (verified_stops source c.in-Err.e c.in-Err.ensures.refused (λ e. c.in-Err.ensures.cause cc)))
    (nothing (g.K.Sink.written c.args.out.now)) c.give_stop.ensures

pub returns-in-Err-clause-used_up : goal.returns-in-Err-clause-used_up
returns-in-Err-clause-used_up g c =
    unread (stream g.S.Source.left g.S.Source.faults c.args.source.now c.read_verified.new.source) (stream g.E.Sink.written g.E.Sink.faults c.args.err.now c.give_stop.new.err) c.from.result c.give_stop.result c.give_stop.ensures

pub returns-in-Err-clause-logged : goal.returns-in-Err-clause-logged
returns-in-Err-clause-logged g c = λ within read. absurd (stop_not_read (stream g.E.Sink.written g.E.Sink.faults c.args.err.now c.give_stop.new.err) c.from.result c.give_stop.result c.give_stop.ensures read)

pub returns-in-Ok-clause-taken : goal.returns-in-Ok-clause-taken
returns-in-Ok-clause-taken g c = c.in-Ok.ensures.taken

pub returns-in-Err-clause-taken : goal.returns-in-Err-clause-taken
returns-in-Err-clause-taken g c = c.in-Err.ensures.taken
