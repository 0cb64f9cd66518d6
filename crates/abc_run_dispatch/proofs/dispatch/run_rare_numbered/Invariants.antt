use Rattle.abc_run_dispatch.proofs.dispatch.run_rare_numbered.Given as goal

abbrev pub ghost-super_arm : goal.ghost-super_arm
ghost-super_arm g a = g.out

abbrev pub ghost-constant_arm : goal.ghost-constant_arm
ghost-constant_arm g a = g.out

abbrev pub ghost-new_arm : goal.ghost-new_arm
ghost-new_arm g a = g.out

abbrev pub ghost-call_arm : goal.ghost-call_arm
ghost-call_arm g a = g.out

abbrev pub ghost-construct_arm : goal.ghost-construct_arm
ghost-construct_arm g a = g.out

abbrev pub ghost-class_arm : goal.ghost-class_arm
ghost-class_arm g a = g.out

abbrev pub ghost-find_arm : goal.ghost-find_arm
ghost-find_arm g a = g.out

abbrev pub ghost-property_arm : goal.ghost-property_arm
ghost-property_arm g a = g.out

abbrev pub ghost-slot_arm : goal.ghost-slot_arm
ghost-slot_arm g a = g.out

abbrev pub ghost-typed_arm : goal.ghost-typed_arm
ghost-typed_arm g a = g.out

abbrev pub ghost-count_arm : goal.ghost-count_arm
ghost-count_arm g a = g.out
