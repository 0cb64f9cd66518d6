use Rattle.abc_run_dispatch.proofs.arms.convert_inline.Given as goal

abbrev pub ghost-run_convert : goal.ghost-run_convert
ghost-run_convert g a = g.out
