use Rattle.abc_run_names.proofs.slots.set_slot.Given as goal

abbrev pub ghost-write_slot : goal.ghost-write_slot
ghost-write_slot g a = g.out
