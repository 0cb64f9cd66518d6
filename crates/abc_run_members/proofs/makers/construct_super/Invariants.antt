use Rattle.abc_run_members.proofs.makers.construct_super.Given as goal

abbrev pub ghost-construct_base : goal.ghost-construct_base
ghost-construct_base g a = g.out
