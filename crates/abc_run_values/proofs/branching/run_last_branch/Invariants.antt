use Rattle.abc_run_values.proofs.branching.run_last_branch.Given as goal

abbrev pub ghost-branch_so : goal.ghost-branch_so
ghost-branch_so g a = g.out

abbrev pub ghost-branch_not : goal.ghost-branch_not
ghost-branch_not g a = g.out
