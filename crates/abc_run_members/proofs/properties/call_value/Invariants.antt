use Rattle.abc_run_members.proofs.properties.call_value.Given as goal

abbrev pub ghost-call : goal.ghost-call
ghost-call g a = g.out
