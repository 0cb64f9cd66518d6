use Rattle.abc_run_values.proofs.compute_steps.run_double.Given as goal

abbrev pub ghost-compute_both : goal.ghost-compute_both
ghost-compute_both g a = g.out
