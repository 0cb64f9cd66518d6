use Rattle.abc_run_dispatch.proofs.arms.double_inline.Given as goal

abbrev pub ghost-run_double : goal.ghost-run_double
ghost-run_double g a = g.out
