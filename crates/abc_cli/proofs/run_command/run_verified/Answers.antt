use Rattle.std.proofs.Common.{ap, subst, sym}
use Rattle.abc_bodies.specs.Places.{ArePlaces}
use Rattle.abc_cli.proofs.EndedRuns.{machine_verified, unopened_quiet}
use Rattle.abc_cli.proofs.CommandRuns.{opened_runs, unopened_runs}
use Rattle.abc_cli.proofs.run_command.run_verified.Goals as goal
use Rattle.abc_cli_answers.specs.End.{stream}
use Rattle.abc_meaning.specs.ThrowLaws.{AreCounted}
use Rattle.abc_link_names.specs.Linked.{LinkedFile}
use Rattle.abc_session.proofs.Pieces.{nothing}
use Rattle.abc_machine.specs.Machines.{Opened}

pub run_machine-status-requires : goal.run_machine-status-requires
run_machine-status-requires g c =
    let is = c.in-Ok.ensures.is in
    let fs = g.H.Host.formulas c.args.host.now in
    record {
      begun = ap (λ (m : Opened). m.ended) is;
      names = sym (ap (λ (m : Opened). m.names) is);
      verified = machine_verified c.args.verified fs c.limits_of-limits.result c.in-Ok.machine c.in-Ok.ensures c.requires.verified (g.met.H.Host.formed c.args.host.now);
      counted = subst AreCounted (sym (ap (λ (m : Opened). m.limits) is)) c.limits_of-limits.ensures.counted;
      places = subst (λ (l : LinkedFile). ArePlaces l.file.bodies c.args.places.now) (sym (ap (λ (m : Opened). m.linked) is)) c.requires.places;
    }

pub returns-in-Ok-clause-end : goal.returns-in-Ok-clause-end
returns-in-Ok-clause-end g c =
    opened_runs c.args.verified (g.H.Host.formulas c.args.host.now) c.limits_of-limits.result c.args.options.now c.in-Ok.machine c.args.places.now (stream g.K.Sink.written g.K.Sink.faults c.args.out.now c.run_machine-status.new.out)
    (stream g.E.Sink.written g.E.Sink.faults c.args.err.now c.run_machine-status.new.err) c.run_machine-status.result c.in-Ok.ensures c.limits_of-limits.ensures.is c.run_machine-status.ensures.end

pub returns-in-Err-clause-end : goal.returns-in-Err-clause-end
returns-in-Err-clause-end g c =
    unopened_runs c.args.verified (g.H.Host.formulas c.args.host.now) c.limits_of-limits.result c.args.options.now c.in-Err.e c.args.places.now (stream g.K.Sink.written g.K.Sink.faults c.args.out.now c.args.out.now)
    (stream g.E.Sink.written g.E.Sink.faults c.args.err.now c.give_unopened.new.err) c.give_unopened.result c.in-Err.ensures c.limits_of-limits.ensures.is (nothing (g.K.Sink.written c.args.out.now)) c.give_unopened.ensures

pub returns-in-Err-clause-quiet : goal.returns-in-Err-clause-quiet
returns-in-Err-clause-quiet g c = λ d. absurd (unopened_quiet (stream g.E.Sink.written g.E.Sink.faults c.args.err.now c.give_unopened.new.err) c.in-Err.e c.give_unopened.result c.give_unopened.ensures d)
