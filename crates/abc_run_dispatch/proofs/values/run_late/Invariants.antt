use Rattle.abc_run_dispatch.proofs.values.run_late.Given as goal

abbrev pub ghost-has_name : goal.ghost-has_name
ghost-has_name g a = g.out
