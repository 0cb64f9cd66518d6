use Rattle.abc_run_calls.proofs.entering.enter_owned.Given as goal

abbrev pub ghost-place_of_owner : goal.ghost-place_of_owner
ghost-place_of_owner g a = g.out

abbrev pub ghost-enter : goal.ghost-enter
ghost-enter g a = g.out
