use Rattle.abc_run_members.proofs.classes.enter_class.Given as goal

abbrev pub ghost-enter_owned : goal.ghost-enter_owned
ghost-enter_owned g a = g.out
