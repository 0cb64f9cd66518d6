use Rattle.abc_run_members.proofs.writing.write_to_slot.Given as goal

abbrev pub ghost-write_slot : goal.ghost-write_slot
ghost-write_slot g a = g.out
