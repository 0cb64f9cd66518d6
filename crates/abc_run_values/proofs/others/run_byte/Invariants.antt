use Rattle.abc_run_values.proofs.others.run_byte.Given as goal

abbrev pub ghost-push_value : goal.ghost-push_value
ghost-push_value g a = g.out
