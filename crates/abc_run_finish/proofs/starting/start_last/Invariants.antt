use Rattle.abc_run_finish.proofs.starting.start_last.Given as goal

abbrev pub ghost-start_or_end : goal.ghost-start_or_end
ghost-start_or_end g a = g.out
