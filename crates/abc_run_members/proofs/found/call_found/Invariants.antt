use Rattle.abc_run_members.proofs.found.call_found.Given as goal

abbrev pub ghost-call_method : goal.ghost-call_method
ghost-call_method g a = g.out

abbrev pub ghost-call_value_found : goal.ghost-call_value_found
ghost-call_value_found g a = g.out
