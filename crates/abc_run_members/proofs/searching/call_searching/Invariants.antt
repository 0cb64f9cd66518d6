use Rattle.abc_run_members.proofs.searching.call_searching.Given as goal

abbrev pub ghost-call_searched : goal.ghost-call_searched
ghost-call_searched g a = g.out
