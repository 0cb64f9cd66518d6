use Rattle.abc_run_dispatch.proofs.arms.typed_arm.Given as goal

abbrev pub ghost-run_typed : goal.ghost-run_typed
ghost-run_typed g a = g.out
