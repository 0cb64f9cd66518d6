use Rattle.abc_run_members.proofs.values.bound_function.Given as goal

abbrev pub ghost-place_of_owner : goal.ghost-place_of_owner
ghost-place_of_owner g a = g.out
