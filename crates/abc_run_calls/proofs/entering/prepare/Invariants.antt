use Rattle.abc_run_calls.proofs.entering.prepare.Given as goal

abbrev pub ghost-coerce_arguments : goal.ghost-coerce_arguments
ghost-coerce_arguments g a = g.out
