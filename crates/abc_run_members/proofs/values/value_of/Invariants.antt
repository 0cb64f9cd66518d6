use Rattle.abc_run_members.proofs.values.value_of.Given as goal

abbrev pub ghost-bind : goal.ghost-bind
ghost-bind g a = g.out

abbrev pub ghost-value_found : goal.ghost-value_found
ghost-value_found g a = g.out
