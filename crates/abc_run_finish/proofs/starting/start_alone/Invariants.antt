use Rattle.abc_run_finish.proofs.starting.start_alone.Given as goal

abbrev pub ghost-prepare : goal.ghost-prepare
ghost-prepare g a = g.out

abbrev pub ghost-put_alone : goal.ghost-put_alone
ghost-put_alone g a = g.out
