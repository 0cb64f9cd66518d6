use Rattle.abc_run_values.proofs.compute_steps.run_convert.Given as goal

abbrev pub ghost-convert_top : goal.ghost-convert_top
ghost-convert_top g a = g.out

abbrev pub ghost-step_on : goal.ghost-step_on
ghost-step_on g a = g.out
