use Rattle.abc_run_calls.proofs.entering.start_above.Given as goal

abbrev pub ghost-enter : goal.ghost-enter
ghost-enter g a = g.out
