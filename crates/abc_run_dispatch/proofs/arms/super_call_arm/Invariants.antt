use Rattle.abc_run_dispatch.proofs.arms.super_call_arm.Given as goal

abbrev pub ghost-run_super_call : goal.ghost-run_super_call
ghost-run_super_call g a = g.out
