use Rattle.abc_run_finish.proofs.stopping.throw.Given as goal

abbrev pub ghost-thrown_as : goal.ghost-thrown_as
ghost-thrown_as g a = g.out
