use Rattle.abc_run_dispatch.proofs.arms.constant_inline.Given as goal

abbrev pub ghost-run_constant : goal.ghost-run_constant
ghost-run_constant g a = g.out
