use Rattle.abc_run_finish.proofs.returning.make_of.Given as goal

abbrev pub ghost-make : goal.ghost-make
ghost-make g a = g.out

abbrev pub ghost-stopped : goal.ghost-stopped
ghost-stopped g a = g.out
