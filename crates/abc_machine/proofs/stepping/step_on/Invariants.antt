use Rattle.abc_machine.proofs.stepping.step_on.Given as goal

abbrev pub ghost-start_over : goal.ghost-start_over
ghost-start_over g a = g.out

abbrev pub ghost-run_held : goal.ghost-run_held
ghost-run_held g a = g.out

abbrev pub ghost-finish_left : goal.ghost-finish_left
ghost-finish_left g a = g.out
