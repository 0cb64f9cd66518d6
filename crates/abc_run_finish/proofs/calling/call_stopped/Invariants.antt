use Rattle.abc_run_finish.proofs.calling.call_stopped.Given as goal

abbrev pub ghost-stopped : goal.ghost-stopped
ghost-stopped g a = g.out
