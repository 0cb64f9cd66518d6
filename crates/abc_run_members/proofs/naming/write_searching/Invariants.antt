use Rattle.abc_run_members.proofs.naming.write_searching.Given as goal

abbrev pub ghost-write_found : goal.ghost-write_found
ghost-write_found g a = g.out
