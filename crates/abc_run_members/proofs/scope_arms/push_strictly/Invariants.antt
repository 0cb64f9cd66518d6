use Rattle.abc_run_members.proofs.scope_arms.push_strictly.Given as goal

abbrev pub ghost-start_above : goal.ghost-start_above
ghost-start_above g a = g.out
