use Rattle.abc_run_calls.proofs.making.make.Given as goal

abbrev pub ghost-make_of : goal.ghost-make_of
ghost-make_of g a = g.out
