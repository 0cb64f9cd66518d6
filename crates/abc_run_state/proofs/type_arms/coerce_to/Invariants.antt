use Rattle.abc_run_state.proofs.type_arms.coerce_to.Given as goal

abbrev pub ghost-coerce : goal.ghost-coerce
ghost-coerce g a = g.out
