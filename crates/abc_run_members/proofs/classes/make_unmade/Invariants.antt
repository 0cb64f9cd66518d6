use Rattle.abc_run_members.proofs.classes.make_unmade.Given as goal

abbrev pub ghost-enter_class : goal.ghost-enter_class
ghost-enter_class g a = g.out
