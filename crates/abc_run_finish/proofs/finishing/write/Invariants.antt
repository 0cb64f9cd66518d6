use Rattle.abc_run_finish.proofs.finishing.write.Given as goal

abbrev pub ghost-trace : goal.ghost-trace
ghost-trace g a = g.out

abbrev pub ghost-stopped : goal.ghost-stopped
ghost-stopped g a = g.out
