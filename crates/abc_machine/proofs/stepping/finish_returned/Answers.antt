use Rattle.std.proofs.Common.{◌∙◌, subst, sym}
use Rattle.std.specs.Prelude.{Ok}
use Rattle.std.specs.declared.result.Result.{Result}
use Rattle.abc_run_calls.specs.Calls.{CanFinish}
use Rattle.abc_run_finish.specs.Fairly.{IsFairTurn}
use Rattle.abc_run_finish.specs.Steps.{StepsIn, left_here}
use Rattle.abc_run_finish.specs.declared.halts.Halt.{Halt}
use Rattle.abc_run_state.specs.Outer.{setting_in, world}
use Rattle.abc_run_state.specs.Turns.{turn_of_answer}
use Rattle.abc_run_state.specs.declared.state.Left.{Left}
use Rattle.abc_run_state.specs.declared.state.Left.TheVariants.{Returns}
use Rattle.abc_run_state.specs.declared.state.Stop.{Stop}
use Rattle.abc_machine.proofs.stepping.finish_returned.Goals as goal

pub finish-done-requires : goal.finish-done-requires
finish-done-requires g c =
    let l = c.args.linked.now in
    let s = c.args.s.now in
    let r = c.requires.1.1 in
    let number = r.1.1.1.1.1.0 in
    λ κs among. (among.0, (among.1, (r.0, (r.1.0, (r.1.1.0, (subst (λ (x : Result Left Stop). CanFinish l x s) number r.1.1.1.0, subst (λ (x : Result Left Stop). IsFairTurn (setting_in l g.out) (turn_of_answer (setting_in l g.out) x (world s g.out) s.frames)) number r.1.1.1.1.0))))))

pub goes_with-requires : goal.goes_with-requires
goes_with-requires g c = c.requires.1.1.1.1.1.1.1.1

pub returns-clause-step : goal.returns-clause-step
returns-clause-step g c =
    let l = c.args.linked.now in
    let s = c.args.s.now in
    let number = c.requires.1.1.1.1.1.1.1.0 in
    let was = g.K.Sink.written c.args.sink.now in
    let wrote = g.K.Sink.written c.finish-done.new.sink in
    subst (λ (x : Result Left Stop). StepsIn (left_here l g.out s x) g.out c.goes_with.new.halted c.finish-done.new.s was wrote) (sym number)
    (subst (λ (r : Result Unit Halt). StepsIn (left_here l g.out s (Ok (Returns c.args.v))) g.out r c.finish-done.new.s was wrote) (sym c.goes_with.ensures.put) c.finish-done.ensures.step)

pub returns-clause-value : goal.returns-clause-value
returns-clause-value g c = λ v e. c.requires.1.1.1.1.1.1.1.0 ∙ c.finish-done.ensures.value v (sym c.goes_with.ensures.put ∙ e)

pub returns-clause-leaves : goal.returns-clause-leaves
returns-clause-leaves g c =
    let left = c.finish-done.ensures.leaves in
    record {
      sized = λ h. left.sized (λ e. h (c.goes_with.ensures.put ∙ e));
      later = left.later;
      cause = λ e. left.cause (sym c.goes_with.ensures.put ∙ e);
      limit = left.limit;
    }
