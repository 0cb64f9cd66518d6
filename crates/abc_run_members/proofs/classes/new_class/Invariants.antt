use Rattle.abc_run_members.proofs.classes.new_class.Given as goal

abbrev pub ghost-make_unmade : goal.ghost-make_unmade
ghost-make_unmade g a = g.out
