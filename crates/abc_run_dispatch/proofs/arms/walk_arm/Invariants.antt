use Rattle.abc_run_dispatch.proofs.arms.walk_arm.Given as goal

abbrev pub ghost-run_walk : goal.ghost-run_walk
ghost-run_walk g a = g.out
