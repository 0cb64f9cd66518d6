use Rattle.abc_run_members.proofs.naming.read_on.Given as goal

abbrev pub ghost-read_on_object : goal.ghost-read_on_object
ghost-read_on_object g a = g.out

abbrev pub ghost-read_searching : goal.ghost-read_searching
ghost-read_searching g a = g.out
