use Rattle.abc_run_finish.proofs.starting.start_or_end.Given as goal

abbrev pub ghost-start_alone : goal.ghost-start_alone
ghost-start_alone g a = g.out

abbrev pub ghost-stopped : goal.ghost-stopped
ghost-stopped g a = g.out
