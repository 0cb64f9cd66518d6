use Rattle.abc_run_dispatch.proofs.arms.class_arm.Given as goal

abbrev pub ghost-run_class : goal.ghost-run_class
ghost-run_class g a = g.out
