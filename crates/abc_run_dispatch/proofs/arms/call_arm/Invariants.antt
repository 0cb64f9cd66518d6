use Rattle.abc_run_dispatch.proofs.arms.call_arm.Given as goal

abbrev pub ghost-run_call_value : goal.ghost-run_call_value
ghost-run_call_value g a = g.out
