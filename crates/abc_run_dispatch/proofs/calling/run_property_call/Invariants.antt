use Rattle.abc_run_dispatch.proofs.calling.run_property_call.Given as goal

abbrev pub ghost-call_property : goal.ghost-call_property
ghost-call_property g a = g.out
