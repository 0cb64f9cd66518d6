use Rattle.abc_run_dispatch.proofs.supers.write_super.Given as goal

abbrev pub ghost-set_super : goal.ghost-set_super
ghost-set_super g a = g.out
