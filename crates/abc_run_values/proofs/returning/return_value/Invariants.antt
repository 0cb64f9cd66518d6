use Rattle.abc_run_values.proofs.returning.return_value.Given as goal

abbrev pub ghost-coerce : goal.ghost-coerce
ghost-coerce g a = g.out
