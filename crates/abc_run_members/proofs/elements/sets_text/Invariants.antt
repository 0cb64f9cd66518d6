use Rattle.abc_run_members.proofs.elements.sets_text.Given as goal

abbrev pub ghost-sets_numbered : goal.ghost-sets_numbered
ghost-sets_numbered g a = g.out
