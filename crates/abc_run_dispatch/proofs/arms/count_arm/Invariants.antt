use Rattle.abc_run_dispatch.proofs.arms.count_arm.Given as goal

abbrev pub ghost-run_count : goal.ghost-run_count
ghost-run_count g a = g.out
