use Rattle.abc_run_finish.proofs.finishing.consult.Given as goal

abbrev pub ghost-ask : goal.ghost-ask
ghost-ask g a = g.out

abbrev pub ghost-stopped : goal.ghost-stopped
ghost-stopped g a = g.out
