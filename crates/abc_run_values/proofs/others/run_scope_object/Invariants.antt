use Rattle.abc_run_values.proofs.others.run_scope_object.Given as goal

abbrev pub ghost-read_scope : goal.ghost-read_scope
ghost-read_scope g a = g.out
