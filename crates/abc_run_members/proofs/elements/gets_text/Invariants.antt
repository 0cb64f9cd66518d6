use Rattle.abc_run_members.proofs.elements.gets_text.Given as goal

abbrev pub ghost-gets_numbered : goal.ghost-gets_numbered
ghost-gets_numbered g a = g.out
