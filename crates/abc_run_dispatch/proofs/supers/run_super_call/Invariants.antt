use Rattle.abc_run_dispatch.proofs.supers.run_super_call.Given as goal

abbrev pub ghost-call_pushing : goal.ghost-call_pushing
ghost-call_pushing g a = g.out

abbrev pub ghost-call_dropping : goal.ghost-call_dropping
ghost-call_dropping g a = g.out
