use Rattle.abc_run_calls.proofs.calling.call.Given as goal

abbrev pub ghost-call_what : goal.ghost-call_what
ghost-call_what g a = g.out
