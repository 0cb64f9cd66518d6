use Rattle.abc_run_members.proofs.searching.get_property.Given as goal

abbrev pub ghost-name_of : goal.ghost-name_of
ghost-name_of g a = g.out

abbrev pub ghost-read_on : goal.ghost-read_on
ghost-read_on g a = g.out
