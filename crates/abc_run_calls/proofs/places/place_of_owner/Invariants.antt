use Rattle.abc_run_calls.proofs.places.place_of_owner.Given as goal

abbrev pub ghost-statics_place : goal.ghost-statics_place
ghost-statics_place g a = g.out

abbrev pub ghost-instances_place : goal.ghost-instances_place
ghost-instances_place g a = g.out
