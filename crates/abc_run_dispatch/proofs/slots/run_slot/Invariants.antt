use Rattle.abc_run_dispatch.proofs.slots.run_slot.Given as goal

abbrev pub ghost-get_slot : goal.ghost-get_slot
ghost-get_slot g a = g.out

abbrev pub ghost-set_slot : goal.ghost-set_slot
ghost-set_slot g a = g.out
