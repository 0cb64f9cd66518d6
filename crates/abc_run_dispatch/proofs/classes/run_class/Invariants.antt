use Rattle.abc_run_dispatch.proofs.classes.run_class.Given as goal

abbrev pub ghost-new_class : goal.ghost-new_class
ghost-new_class g a = g.out
