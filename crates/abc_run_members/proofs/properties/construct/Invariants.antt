use Rattle.abc_run_members.proofs.properties.construct.Given as goal

abbrev pub ghost-make : goal.ghost-make
ghost-make g a = g.out
