use Rattle.abc_run_dispatch.proofs.arms.single_arm.Given as goal

abbrev pub ghost-run_single : goal.ghost-run_single
ghost-run_single g a = g.out
