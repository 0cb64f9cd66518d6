use Rattle.std.proofs.Common.{◌∙◌, ap, subst, sym}
use Rattle.abc_bodies.specs.Places.{ArePlaces}
use Rattle.abc_cli.proofs.Called.{opened_as, opened_calls, unopened_calls}
use Rattle.abc_cli.proofs.EndedRuns.{machine_verified}
use Rattle.abc_cli.proofs.calls_command.call_verified.Goals as goal
use Rattle.abc_cli_answers.specs.End.{stream}
use Rattle.abc_meaning.specs.ThrowLaws.{AreCounted}
use Rattle.abc_link_names.specs.Linked.{LinkedFile}
use Rattle.abc_session.proofs.Pieces.{nothing}
use Rattle.abc_machine.specs.Machines.{Opened}

pub call_exported-status-requires : goal.call_exported-status-requires
call_exported-status-requires g c =
    let is = c.in-Ok.ensures.is in
    let fs = g.H.Host.formulas c.args.host.now in
    record {
      opened = opened_as c.args.verified fs c.limits_of-limits.result c.in-Ok.session c.in-Ok.ensures;
      limits = ap (λ (m : Opened). m.limits) is ∙ c.limits_of-limits.ensures.is;
      verified = machine_verified c.args.verified fs c.limits_of-limits.result c.in-Ok.session c.in-Ok.ensures c.requires.verified (g.met.H.Host.formed c.args.host.now);
      counted = subst AreCounted (sym (ap (λ (m : Opened). m.limits) is)) c.limits_of-limits.ensures.counted;
      places = subst (λ (l : LinkedFile). ArePlaces l.file.bodies c.args.places.now) (sym (ap (λ (m : Opened). m.linked) is)) c.requires.places;
    }

pub returns-in-Ok : goal.returns-in-Ok
returns-in-Ok g c =
    opened_calls c.args.verified (g.H.Host.formulas c.args.host.now) c.limits_of-limits.result c.args.options.now c.in-Ok.session c.args.places.now (stream g.K.Sink.written g.K.Sink.faults c.args.out.now c.call_exported-status.new.out)
    (stream g.E.Sink.written g.E.Sink.faults c.args.err.now c.call_exported-status.new.err) c.call_exported-status.result c.in-Ok.ensures c.call_exported-status.ensures

pub returns-in-Err : goal.returns-in-Err
returns-in-Err g c =
    unopened_calls c.args.verified (g.H.Host.formulas c.args.host.now) c.limits_of-limits.result c.args.options.now c.in-Err.e c.args.places.now (stream g.K.Sink.written g.K.Sink.faults c.args.out.now c.args.out.now)
    (stream g.E.Sink.written g.E.Sink.faults c.args.err.now c.give_unopened.new.err) c.give_unopened.result c.in-Err.ensures c.limits_of-limits.ensures.is (nothing (g.K.Sink.written c.args.out.now)) c.give_unopened.ensures
