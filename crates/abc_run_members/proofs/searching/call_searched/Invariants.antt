use Rattle.abc_run_members.proofs.searching.call_searched.Given as goal

abbrev pub ghost-name_of : goal.ghost-name_of
ghost-name_of g a = g.out

abbrev pub ghost-call_on : goal.ghost-call_on
ghost-call_on g a = g.out
