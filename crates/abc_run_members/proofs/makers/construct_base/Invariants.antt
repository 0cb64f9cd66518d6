use Rattle.abc_run_members.proofs.makers.construct_base.Given as goal

abbrev pub ghost-enter_owned : goal.ghost-enter_owned
ghost-enter_owned g a = g.out

abbrev pub ghost-tell_base : goal.ghost-tell_base
ghost-tell_base g a = g.out
