use Rattle.abc_run_members.proofs.naming.call_on.Given as goal

abbrev pub ghost-call_found : goal.ghost-call_found
ghost-call_found g a = g.out
