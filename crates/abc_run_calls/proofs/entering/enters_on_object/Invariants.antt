use Rattle.abc_run_calls.proofs.entering.enters_on_object.Given as goal

abbrev pub ghost-place_of_owner : goal.ghost-place_of_owner
ghost-place_of_owner g a = g.out

abbrev pub ghost-enters_at_once : goal.ghost-enters_at_once
ghost-enters_at_once g a = g.out
