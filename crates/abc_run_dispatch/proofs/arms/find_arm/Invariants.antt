use Rattle.abc_run_dispatch.proofs.arms.find_arm.Given as goal

abbrev pub ghost-run_find : goal.ghost-run_find
ghost-run_find g a = g.out
