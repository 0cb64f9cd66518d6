use Rattle.abc_run_names.proofs.slots.write_slot.Given as goal

abbrev pub ghost-coerce : goal.ghost-coerce
ghost-coerce g a = g.out
