use Rattle.abc_run_members.proofs.naming.write_on.Given as goal

abbrev pub ghost-write_on_object : goal.ghost-write_on_object
ghost-write_on_object g a = g.out
