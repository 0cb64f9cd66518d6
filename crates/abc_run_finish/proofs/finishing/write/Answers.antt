use Rattle.std.proofs.Common.{◌∙◌, ap, subst, sym}
use Rattle.std.specs.Prelude.{Err}
use Rattle.std.specs.declared.result.Result.{Result}
use Rattle.abc_run_finish.specs.Outward.{TracesAs}
use Rattle.abc_run_finish.specs.declared.outward_halts.Unwritten.{Unwritten}
use Rattle.abc_run_state.specs.Outer.{setting_in, world}
use Rattle.abc_run_state.specs.Turns.{Turned, turn_of_trace}
use Rattle.abc_run_finish.specs.Fairly.{IsFairTurn}
use Rattle.abc_run_finish.specs.Steps.{StepsIn, step_of_turn}
use Rattle.abc_run_finish.specs.declared.halts.Halt.{Halt}
use Rattle.abc_run_finish.proofs.Finished.{ended_in, failed_in, no_failure, no_return, wrote_in}
use Rattle.abc_run_finish.proofs.Stepped.{can_stop}
use Rattle.abc_run_finish.proofs.finishing.write.Goals as goal

pub returns-in-Ok-clause-step : goal.returns-in-Ok-clause-step
returns-in-Ok-clause-step g c = wrote_in c.args.linked.now g.out c.args.count c.args.how c.args.s.now c.trace.new.s (g.K.Sink.written c.args.sink.now) (g.K.Sink.written c.trace.new.sink) c.in-Ok.ensures.traces

pub returns-in-Ok-clause-leaves : goal.returns-in-Ok-clause-leaves
returns-in-Ok-clause-leaves g c =
    let p = setting_in c.args.linked.now g.out in
    record {
      sized = λ h. (subst (λ (t : Turned). IsFairTurn p t) c.in-Ok.ensures.traces.goes c.requires.1.1.1).held.sized;
      later = c.in-Ok.ensures.later;
      cause = λ e. absurd cc;
      limit = c.in-Ok.ensures.limit;
    }

pub stopped-requires : goal.stopped-requires
stopped-requires g c =
    let l = c.args.linked.now in
    let p = setting_in l g.out in
    let new = c.trace.new.s in
    let told = subst (λ (x : Unwritten). TracesAs l g.out c.args.count c.args.how c.args.s.now (Err x) new (g.K.Sink.written c.args.sink.now) (g.K.Sink.written c.trace.new.sink)) c.in-Err-Stops.field-0-is c.in-Err-Stops.ensures.traces in
    let can = can_stop l g.out new c.in-Err-Stops.stop (subst (λ (t : Turned). IsFairTurn p t) told.0 c.requires.1.1.1) in
    (can.over, (c.requires.1.0, (can.value, (can.sized, can.free))))

pub returns-in-Err-Stops-clause-step : goal.returns-in-Err-Stops-clause-step
returns-in-Err-Stops-clause-step g c =
    let l = c.args.linked.now in
    let p = setting_in l g.out in
    let s = c.args.s.now in
    let mid = c.trace.new.s in
    let new = c.stopped.new.s in
    let before = g.K.Sink.written c.args.sink.now in
    let now = g.K.Sink.written c.trace.new.sink in
    let told = subst (λ (x : Unwritten). TracesAs l g.out c.args.count c.args.how s (Err x) mid before now) c.in-Err-Stops.field-0-is c.in-Err-Stops.ensures.traces in
    let can = can_stop l g.out mid c.in-Err-Stops.stop (subst (λ (t : Turned). IsFairTurn p t) told.0 c.requires.1.1.1) in
    let left = step_of_turn p (turn_of_trace p c.args.count c.args.how (world s g.out) s.frames) in
    subst (λ (r : Result Unit Halt). StepsIn left g.out r new before now) (sym c.halted.ensures)
    (ended_in left g.out c.stopped.result new before now (ap (step_of_turn p) told.0 ∙ can.is ∙ c.stopped.ensures.step) told.1)

pub returns-in-Err-Stops-clause-leaves : goal.returns-in-Err-Stops-clause-leaves
returns-in-Err-Stops-clause-leaves g c = record {
  sized = λ h. c.stopped.ensures.sized;
  later = c.trace.ensures.later;
  cause = λ e. absurd (no_failure c.stopped.result (sym c.halted.ensures ∙ e));
  limit = c.stopped.ensures.limit ∙ c.trace.ensures.limit;
}

pub returns-in-Err-Stops-clause-none : goal.returns-in-Err-Stops-clause-none
returns-in-Err-Stops-clause-none g c = λ v e. no_return c.stopped.result v (sym c.halted.ensures ∙ e)

pub returns-in-Err-Fails-clause-step : goal.returns-in-Err-Fails-clause-step
returns-in-Err-Fails-clause-step g c =
    let l = c.args.linked.now in
    let before = g.K.Sink.written c.args.sink.now in
    let now = g.K.Sink.written c.trace.new.sink in
    let told = subst (λ (x : Unwritten). TracesAs l g.out c.args.count c.args.how c.args.s.now (Err x) c.trace.new.s before now) c.in-Err-Fails.field-0-is c.in-Err-Fails.ensures.traces in
    failed_in l g.out c.args.count c.args.how c.args.s.now c.trace.new.s before now told
