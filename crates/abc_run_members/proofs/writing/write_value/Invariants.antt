use Rattle.abc_run_members.proofs.writing.write_value.Given as goal

abbrev pub ghost-write_to_slot : goal.ghost-write_to_slot
ghost-write_to_slot g a = g.out
