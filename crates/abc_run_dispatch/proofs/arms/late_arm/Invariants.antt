use Rattle.abc_run_dispatch.proofs.arms.late_arm.Given as goal

abbrev pub ghost-run_late : goal.ghost-run_late
ghost-run_late g a = g.out
