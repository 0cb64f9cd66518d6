use Rattle.abc_run_dispatch.proofs.arms.construct_arm.Given as goal

abbrev pub ghost-run_construct : goal.ghost-run_construct
ghost-run_construct g a = g.out
