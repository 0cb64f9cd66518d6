use Rattle.abc_run_values.proofs.compute_steps.run_comparison.Given as goal

abbrev pub ghost-compare_top : goal.ghost-compare_top
ghost-compare_top g a = g.out
