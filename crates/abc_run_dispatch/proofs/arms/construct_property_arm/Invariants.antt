use Rattle.abc_run_dispatch.proofs.arms.construct_property_arm.Given as goal

abbrev pub ghost-run_construct_property : goal.ghost-run_construct_property
ghost-run_construct_property g a = g.out
