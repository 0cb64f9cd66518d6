use Rattle.std.proofs.Common.{ap, subst, sym}
use Rattle.abc_bodies.specs.Places.{ArePlaces}
use Rattle.abc_cli.proofs.Logging.{opened_logs, unopened_logs}
use Rattle.abc_cli.proofs.EndedRuns.{machine_verified}
use Rattle.abc_cli.proofs.log_command.log_verified.Goals as goal
use Rattle.abc_cli_answers.specs.End.{stream}
use Rattle.abc_cli.specs.Logs.{front}
use Rattle.abc_meaning.specs.ThrowLaws.{AreCounted}
use Rattle.abc_meaning.specs.Setting.{Setting}
use Rattle.abc_link_names.specs.Linked.{LinkedFile}
use Rattle.abc_machine.specs.Machines.{Opened}

pub log_machine-status-requires : goal.log_machine-status-requires
log_machine-status-requires g c =
    let is = c.in-Ok.ensures.is in
    let fs = g.H.Host.formulas c.args.host.now in
    let limits = c.args.front.now.limits in
    record {
      begun = ap (λ (m : Opened). m.ended) is;
      names = sym (ap (λ (m : Opened). m.names) is);
      verified = machine_verified c.args.verified fs limits c.in-Ok.machine c.in-Ok.ensures c.requires.verified (g.met.H.Host.formed c.args.host.now);
      counted = subst AreCounted (sym (ap (λ (m : Opened). m.limits) is)) c.requires.counted;
      places = subst (λ (l : LinkedFile). ArePlaces l.file.bodies c.args.places.now) (sym (ap (λ (m : Opened). m.linked) is)) c.requires.places;
      short = c.requires.short;
    }

pub returns-in-Ok : goal.returns-in-Ok
returns-in-Ok g c =
    let f = c.args.front.now in
    opened_logs c.args.verified (g.H.Host.formulas c.args.host.now) f.limits f.fuel (front f.file.items f.fuel f.limits) c.in-Ok.machine c.args.places.now (stream g.K.Sink.written g.K.Sink.faults c.args.out.now c.log_machine-status.new.out)
    (stream g.E.Sink.written g.E.Sink.faults c.args.err.now c.log_machine-status.new.err) c.log_machine-status.result c.in-Ok.ensures c.log_machine-status.ensures

pub returns-in-Err : goal.returns-in-Err
returns-in-Err g c =
    let f = c.args.front.now in
    let p : Setting = record { linked = c.args.verified; formulas = g.H.Host.formulas c.args.host.now } in
    unopened_logs c.too_small_is_one_line.ensures c.args.places.now p f.limits f.fuel (front f.file.items f.fuel f.limits) c.in-Err.e (stream g.K.Sink.written g.K.Sink.faults c.args.out.now c.log_unopened.new.out)
    (stream g.E.Sink.written g.E.Sink.faults c.args.err.now c.log_unopened.new.err) c.log_unopened.result c.in-Err.ensures c.log_unopened.ensures
