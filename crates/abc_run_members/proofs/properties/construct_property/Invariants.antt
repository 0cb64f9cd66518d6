use Rattle.abc_run_members.proofs.properties.construct_property.Given as goal

abbrev pub ghost-name_of : goal.ghost-name_of
ghost-name_of g a = g.out

abbrev pub ghost-construct_on : goal.ghost-construct_on
ghost-construct_on g a = g.out
