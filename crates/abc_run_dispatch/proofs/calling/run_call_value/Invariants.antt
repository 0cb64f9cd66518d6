use Rattle.abc_run_dispatch.proofs.calling.run_call_value.Given as goal

abbrev pub ghost-call_value : goal.ghost-call_value
ghost-call_value g a = g.out
