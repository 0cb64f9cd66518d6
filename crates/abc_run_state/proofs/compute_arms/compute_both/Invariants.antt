use Rattle.abc_run_state.proofs.compute_arms.compute_both.Given as goal

abbrev pub ghost-compute_two : goal.ghost-compute_two
ghost-compute_two g a = g.out
