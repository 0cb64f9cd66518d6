use Rattle.std.proofs.Common.{◌∙◌, refl, subst, sym}
use Rattle.std.specs.declared.result.Result.{Result}
use Rattle.abc_run_finish.proofs.Finished.{ended_in, no_failure, no_return}
use Rattle.abc_run_finish.specs.Steps.{StepsAs, step_here}
use Rattle.abc_run_finish.specs.declared.halts.Halt.{Halt}
use Rattle.abc_run_finish.proofs.starting.start_last.Goals as goal

pub returns-clause-step : goal.returns-clause-step
returns-clause-step g c = λ before.
    let l = c.args.linked.now in
    subst (λ (r : Result Unit Halt). StepsAs l g.out c.args.s.now r c.start_or_end.new.s before before) (sym c.halted.ensures) (ended_in (step_here l g.out c.args.s.now) g.out c.start_or_end.result c.start_or_end.new.s before before c.start_or_end.ensures.step refl)

pub returns-clause-ends : goal.returns-clause-ends
returns-clause-ends g c = λ e. no_failure c.start_or_end.result (sym c.halted.ensures ∙ e)

pub returns-clause-none : goal.returns-clause-none
returns-clause-none g c = λ v e. no_return c.start_or_end.result v (sym c.halted.ensures ∙ e)
