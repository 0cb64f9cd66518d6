use Rattle.abc_run_finish.proofs.call_arguments.prepare.Given as goal

abbrev pub ghost-coerce_arguments : goal.ghost-coerce_arguments
ghost-coerce_arguments g a = g.out
