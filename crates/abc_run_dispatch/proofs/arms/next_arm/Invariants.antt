use Rattle.abc_run_dispatch.proofs.arms.next_arm.Given as goal

abbrev pub ghost-run_next : goal.ghost-run_next
ghost-run_next g a = g.out
