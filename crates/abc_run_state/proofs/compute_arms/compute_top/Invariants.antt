use Rattle.abc_run_state.proofs.compute_arms.compute_top.Given as goal

abbrev pub ghost-compute_one : goal.ghost-compute_one
ghost-compute_one g a = g.out
