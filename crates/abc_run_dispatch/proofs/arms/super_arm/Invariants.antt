use Rattle.abc_run_dispatch.proofs.arms.super_arm.Given as goal

abbrev pub ghost-run_super : goal.ghost-run_super
ghost-run_super g a = g.out
