use Rattle.abc_run_members.proofs.values.bind.Given as goal

abbrev pub ghost-bound_function : goal.ghost-bound_function
ghost-bound_function g a = g.out
