use Rattle.abc_run_values.proofs.others.run_debug.Given as goal

abbrev pub ghost-step_on : goal.ghost-step_on
ghost-step_on g a = g.out
