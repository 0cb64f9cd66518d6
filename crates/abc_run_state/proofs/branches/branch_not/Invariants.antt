use Rattle.abc_run_state.proofs.branches.branch_not.Given as goal

abbrev pub ghost-compare : goal.ghost-compare
ghost-compare g a = g.out
