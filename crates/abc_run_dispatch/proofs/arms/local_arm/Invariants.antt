use Rattle.abc_run_dispatch.proofs.arms.local_arm.Given as goal

abbrev pub ghost-run_local : goal.ghost-run_local
ghost-run_local g a = g.out
