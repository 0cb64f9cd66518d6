use Rattle.abc_run_members.proofs.searching.set_property.Given as goal

abbrev pub ghost-name_of : goal.ghost-name_of
ghost-name_of g a = g.out

abbrev pub ghost-write_on : goal.ghost-write_on
ghost-write_on g a = g.out
