use Rattle.abc_run_members.proofs.values.value_found.Given as goal

abbrev pub ghost-slot_of : goal.ghost-slot_of
ghost-slot_of g a = g.out

abbrev pub ghost-element_of : goal.ghost-element_of
ghost-element_of g a = g.out

abbrev pub ghost-length_of : goal.ghost-length_of
ghost-length_of g a = g.out
