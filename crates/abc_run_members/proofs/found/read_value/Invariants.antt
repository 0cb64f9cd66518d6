use Rattle.abc_run_members.proofs.found.read_value.Given as goal

abbrev pub ghost-value_of : goal.ghost-value_of
ghost-value_of g a = g.out
