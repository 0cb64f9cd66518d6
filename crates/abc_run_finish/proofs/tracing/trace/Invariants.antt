use Rattle.abc_run_finish.proofs.tracing.trace.Given as goal

abbrev pub ghost-convert_arguments : goal.ghost-convert_arguments
ghost-convert_arguments g a = g.out
