use Rattle.abc_run_members.proofs.found.enter_slowly.Given as goal

abbrev pub ghost-enter_on : goal.ghost-enter_on
ghost-enter_on g a = g.out
