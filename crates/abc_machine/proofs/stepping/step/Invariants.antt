use Rattle.abc_machine.proofs.stepping.step.Given as goal

abbrev pub ghost-step_on : goal.ghost-step_on
ghost-step_on g a = g.out
