use Rattle.abc_run_dispatch.proofs.arms.scope_arm.Given as goal

abbrev pub ghost-run_scope : goal.ghost-run_scope
ghost-run_scope g a = g.out
