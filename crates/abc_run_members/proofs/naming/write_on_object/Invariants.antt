use Rattle.abc_run_members.proofs.naming.write_on_object.Given as goal

abbrev pub ghost-write_searching : goal.ghost-write_searching
ghost-write_searching g a = g.out
