use Rattle.abc_run_members.proofs.found.call_value_found.Given as goal

abbrev pub ghost-value_found : goal.ghost-value_found
ghost-value_found g a = g.out

abbrev pub ghost-call : goal.ghost-call
ghost-call g a = g.out
