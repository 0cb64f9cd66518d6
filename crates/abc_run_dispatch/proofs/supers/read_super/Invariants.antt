use Rattle.abc_run_dispatch.proofs.supers.read_super.Given as goal

abbrev pub ghost-get_super : goal.ghost-get_super
ghost-get_super g a = g.out
