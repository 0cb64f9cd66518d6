use Rattle.abc_run_dispatch.proofs.constructing.run_construct_property.Given as goal

abbrev pub ghost-construct_property : goal.ghost-construct_property
ghost-construct_property g a = g.out
