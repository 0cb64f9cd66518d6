use Rattle.abc_run_values.proofs.compute_steps.run_single.Given as goal

abbrev pub ghost-compute_top : goal.ghost-compute_top
ghost-compute_top g a = g.out
