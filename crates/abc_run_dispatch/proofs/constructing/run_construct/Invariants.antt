use Rattle.abc_run_dispatch.proofs.constructing.run_construct.Given as goal

abbrev pub ghost-construct : goal.ghost-construct
ghost-construct g a = g.out
