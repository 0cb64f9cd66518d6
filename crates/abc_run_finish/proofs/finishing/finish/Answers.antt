use Rattle.std.proofs.Common.{◌∙◌, refl, ap, subst, sym, arith}
use Rattle.std.specs.Prelude.{Ok, Err}
use Rattle.std.specs.declared.result.Result.{Result}
use Rattle.abc_heap_values.specs.declared.values.Value.{Value}
use Rattle.abc_run_state.specs.Outer.{setting_in, world}
use Rattle.abc_run_state.specs.Turns.{turn_of_answer}
use Rattle.abc_run_state.specs.declared.state.Left.{Left}
use Rattle.abc_run_state.specs.declared.state.Left.TheVariants as lefts
use Rattle.abc_run_state.specs.declared.state.Stop.{Stop}
use Rattle.abc_run_finish.specs.Fairly.{IsFairTurn}
use Rattle.abc_run_finish.specs.Steps.{StepsIn, left_here}
use Rattle.abc_run_finish.specs.declared.halts.Halt.{Halt}
use Rattle.abc_run_finish.proofs.Finished.{ended_in, no_return}
use Rattle.abc_run_finish.proofs.Stepped.{can_stop}
use Rattle.abc_run_finish.proofs.finishing.finish.Goals as goal

pub returns-in-Ok-Returns-clause-step : goal.returns-in-Ok-Returns-clause-step
returns-in-Ok-Returns-clause-step g c =
    let l = c.args.linked.now in
    let s = c.args.s.now in
    let sink = g.K.Sink.written c.args.sink.now in
    let is = c.in-Ok-Returns.is ∙ ap (λ (x : Left). Ok x) (rw c.in-Ok-Returns.is at c.in-Ok-Returns.field-0-is) in
    subst (λ (x : Result Left Stop). StepsIn (left_here l g.out s x) g.out c.give_back.result c.give_back.new.s sink sink) (sym is) (c.give_back.ensures.step sink)

pub returns-in-Ok-Returns-clause-value : goal.returns-in-Ok-Returns-clause-value
returns-in-Ok-Returns-clause-value g c = λ x e.
    let is = c.in-Ok-Returns.is ∙ ap (λ (k : Left). Ok k) (rw c.in-Ok-Returns.is at c.in-Ok-Returns.field-0-is) in
    is ∙ ap (λ (v : Value). Ok (lefts.Returns v)) (sym (c.give_back.ensures.value x e))

pub returns-in-Ok-Returns-clause-leaves : goal.returns-in-Ok-Returns-clause-leaves
returns-in-Ok-Returns-clause-leaves g c = record {
  sized = λ h. c.give_back.ensures.sized;
  later = omega arith;
  cause = λ e. absurd (c.give_back.ensures.ends e);
  limit = c.give_back.ensures.limit;
}

pub returns-in-Ok-Traces-clause-value : goal.returns-in-Ok-Traces-clause-value
returns-in-Ok-Traces-clause-value g c = λ x e. absurd (c.write.ensures.none x e)

pub returns-in-Ok-Asks-clause-value : goal.returns-in-Ok-Asks-clause-value
returns-in-Ok-Asks-clause-value g c = λ x e. absurd (no_return c.consult.result x (sym c.halted.ensures ∙ e))

pub returns-in-Err-clause-value : goal.returns-in-Err-clause-value
returns-in-Err-clause-value g c = λ x e. absurd (no_return c.stopped.result x (sym c.halted-in-Err.ensures ∙ e))

pub returns-in-Err-clause-step : goal.returns-in-Err-clause-step
returns-in-Err-clause-step g c =
    let l = c.args.linked.now in
    let p = setting_in l g.out in
    let s = c.args.s.now in
    let sink = g.K.Sink.written c.args.sink.now in
    let can = can_stop l g.out s c.in-Err.stop (subst (λ (x : Result Left Stop). IsFairTurn p (turn_of_answer p x (world s g.out) s.frames)) c.in-Err.is c.requires.1.1.1.1.1.1) in
    subst (λ (x : Result Left Stop). StepsIn (left_here l g.out s x) g.out c.halted-in-Err.result c.stopped.new.s sink sink) (sym c.in-Err.is)
    (subst (λ (r : Result Unit Halt). StepsIn (left_here l g.out s (Err c.in-Err.stop)) g.out r c.stopped.new.s sink sink) (sym c.halted-in-Err.ensures)
    (ended_in (left_here l g.out s (Err c.in-Err.stop)) g.out c.stopped.result c.stopped.new.s sink sink (can.is ∙ c.stopped.ensures.step) refl))
