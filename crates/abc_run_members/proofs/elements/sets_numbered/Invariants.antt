use Rattle.abc_run_members.proofs.elements.sets_numbered.Given as goal

abbrev pub ghost-sets_element : goal.ghost-sets_element
ghost-sets_element g a = g.out
