use Rattle.abc_run_dispatch.proofs.arms.double_fast.Given as goal

abbrev pub ghost-double_inline : goal.ghost-double_inline
ghost-double_inline g a = g.out

abbrev pub ghost-double_arm : goal.ghost-double_arm
ghost-double_arm g a = g.out
