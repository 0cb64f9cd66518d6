use Rattle.abc_run_dispatch.proofs.supers.call_dropping.Given as goal

abbrev pub ghost-call_super : goal.ghost-call_super
ghost-call_super g a = g.out
