use Rattle.abc_run_state.proofs.compute_arms.convert_top.Given as goal

abbrev pub ghost-convert : goal.ghost-convert
ghost-convert g a = g.out
