use Rattle.abc_run_members.proofs.elements.set_element_fast.Given as goal

abbrev pub ghost-late_text : goal.ghost-late_text
ghost-late_text g a = g.out

abbrev pub ghost-sets_text : goal.ghost-sets_text
ghost-sets_text g a = g.out
