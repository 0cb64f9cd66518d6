use Rattle.abc_run_calls.proofs.arguments.coerce_argument.Given as goal

abbrev pub ghost-coerce : goal.ghost-coerce
ghost-coerce g a = g.out
