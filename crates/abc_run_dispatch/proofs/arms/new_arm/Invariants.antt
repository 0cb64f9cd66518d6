use Rattle.abc_run_dispatch.proofs.arms.new_arm.Given as goal

abbrev pub ghost-run_new : goal.ghost-run_new
ghost-run_new g a = g.out
