use Rattle.abc_run_dispatch.proofs.arms.control_inline.Given as goal

abbrev pub ghost-run_control : goal.ghost-run_control
ghost-run_control g a = g.out
