use Rattle.abc_run_members.proofs.naming.construct_on.Given as goal

abbrev pub ghost-construct_found : goal.ghost-construct_found
ghost-construct_found g a = g.out
