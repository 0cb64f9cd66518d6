use Rattle.abc_run_dispatch.proofs.dispatch.run_paired.Given as goal

abbrev pub ghost-next_arm : goal.ghost-next_arm
ghost-next_arm g a = g.out

abbrev pub ghost-super_call_arm : goal.ghost-super_call_arm
ghost-super_call_arm g a = g.out

abbrev pub ghost-property_call_arm : goal.ghost-property_call_arm
ghost-property_call_arm g a = g.out

abbrev pub ghost-construct_property_arm : goal.ghost-construct_property_arm
ghost-construct_property_arm g a = g.out
