use Rattle.abc_run_values.proofs.returning.run_return.Given as goal

abbrev pub ghost-return_value : goal.ghost-return_value
ghost-return_value g a = g.out
