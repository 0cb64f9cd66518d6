use Rattle.abc_run_dispatch.proofs.arms.convert_fast.Given as goal

abbrev pub ghost-convert_inline : goal.ghost-convert_inline
ghost-convert_inline g a = g.out

abbrev pub ghost-convert_arm : goal.ghost-convert_arm
ghost-convert_arm g a = g.out
