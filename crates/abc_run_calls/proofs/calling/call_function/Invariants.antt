use Rattle.abc_run_calls.proofs.calling.call_function.Given as goal

abbrev pub ghost-enter : goal.ghost-enter
ghost-enter g a = g.out
