use Rattle.abc_run_members.proofs.naming.read_on_object.Given as goal

abbrev pub ghost-read_found : goal.ghost-read_found
ghost-read_found g a = g.out

abbrev pub ghost-read_searching : goal.ghost-read_searching
ghost-read_searching g a = g.out
