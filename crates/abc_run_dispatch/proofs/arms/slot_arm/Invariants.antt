use Rattle.abc_run_dispatch.proofs.arms.slot_arm.Given as goal

abbrev pub ghost-run_slot : goal.ghost-run_slot
ghost-run_slot g a = g.out
