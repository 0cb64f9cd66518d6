use Rattle.abc_cli.proofs.Logging.{front_logs}
use Rattle.abc_cli_answers.proofs.Runs.{memory_runs}
use Rattle.abc_cli.proofs.log_command.log_file.Goals as goal
use Rattle.abc_cli_answers.specs.End.{stream}
use Rattle.abc_cli.specs.Logs.{IsLogged, whole_log}
use Rattle.abc_cli.specs.Meant.{limits_of}
use Rattle.abc_meaning.specs.Meaning.{meaning}
use Rattle.abc_meaning.specs.Setting.{Setting}
use Rattle.abc_session.proofs.Pieces.{nothing}

pub returns-in-Ok : goal.returns-in-Ok
returns-in-Ok g c =
    front_logs c.args.verified (g.H.Host.formulas c.args.host.now) c.args.options.now c.args.places.now c.in-Ok.front.file.items c.in-Ok.front.fuel c.in-Ok.front.limits (stream g.K.Sink.written g.K.Sink.faults c.args.out.now c.log_verified.new.out)
    (stream g.E.Sink.written g.E.Sink.faults c.args.err.now c.log_verified.new.err) c.log_verified.result c.in-Ok.ensures.file c.in-Ok.ensures.fuel c.in-Ok.ensures.limits c.log_verified.ensures

pub returns-in-Err : goal.returns-in-Err
returns-in-Err g c =
    let p : Setting = record { linked = c.args.verified; formulas = g.H.Host.formulas c.args.host.now } in
    let o = c.args.options.now in
    memory_runs (IsLogged c.args.verified.file c.args.places.now (whole_log p (limits_of o) o.fuel) (meaning p (limits_of o) o.fuel)) ⊥ (stream g.K.Sink.written g.K.Sink.faults c.args.out.now c.args.out.now)
    (stream g.E.Sink.written g.E.Sink.faults c.args.err.now c.give_stop.new.err) c.give_stop.result (nothing (g.K.Sink.written c.args.out.now)) c.give_stop.ensures
