use Rattle.abc_run_dispatch.proofs.supers.make_super.Given as goal

abbrev pub ghost-construct_super : goal.ghost-construct_super
ghost-construct_super g a = g.out
