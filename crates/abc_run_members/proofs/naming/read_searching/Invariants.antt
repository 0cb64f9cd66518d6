use Rattle.abc_run_members.proofs.naming.read_searching.Given as goal

abbrev pub ghost-read_found : goal.ghost-read_found
ghost-read_found g a = g.out
