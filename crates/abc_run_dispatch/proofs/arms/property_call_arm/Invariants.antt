use Rattle.abc_run_dispatch.proofs.arms.property_call_arm.Given as goal

abbrev pub ghost-run_property_call : goal.ghost-run_property_call
ghost-run_property_call g a = g.out
