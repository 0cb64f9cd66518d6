use Rattle.abc_run_dispatch.proofs.supers.run_super.Given as goal

abbrev pub ghost-read_super : goal.ghost-read_super
ghost-read_super g a = g.out

abbrev pub ghost-write_super : goal.ghost-write_super
ghost-write_super g a = g.out

abbrev pub ghost-make_super : goal.ghost-make_super
ghost-make_super g a = g.out
