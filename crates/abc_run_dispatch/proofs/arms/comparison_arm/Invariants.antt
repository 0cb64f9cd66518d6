use Rattle.abc_run_dispatch.proofs.arms.comparison_arm.Given as goal

abbrev pub ghost-run_comparison : goal.ghost-run_comparison
ghost-run_comparison g a = g.out
