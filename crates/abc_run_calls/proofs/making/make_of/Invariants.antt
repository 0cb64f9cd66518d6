use Rattle.abc_run_calls.proofs.making.make_of.Given as goal

abbrev pub ghost-make_instance : goal.ghost-make_instance
ghost-make_instance g a = g.out

abbrev pub ghost-make_of_class : goal.ghost-make_of_class
ghost-make_of_class g a = g.out
