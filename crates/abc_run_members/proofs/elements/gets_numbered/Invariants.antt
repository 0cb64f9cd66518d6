use Rattle.abc_run_members.proofs.elements.gets_numbered.Given as goal

abbrev pub ghost-gets_element : goal.ghost-gets_element
ghost-gets_element g a = g.out
