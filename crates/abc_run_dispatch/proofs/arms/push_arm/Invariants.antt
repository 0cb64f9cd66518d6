use Rattle.abc_run_dispatch.proofs.arms.push_arm.Given as goal

abbrev pub ghost-run_push : goal.ghost-run_push
ghost-run_push g a = g.out
