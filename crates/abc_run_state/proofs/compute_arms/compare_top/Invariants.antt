use Rattle.abc_run_state.proofs.compute_arms.compare_top.Given as goal

abbrev pub ghost-compare : goal.ghost-compare
ghost-compare g a = g.out
