use Rattle.abc_run_members.proofs.found.enters_object.Given as goal

abbrev pub ghost-enters_on_object : goal.ghost-enters_on_object
ghost-enters_on_object g a = g.out
