use Rattle.abc_run_values.proofs.branching.run_first_branch.Given as goal

abbrev pub ghost-branch_not : goal.ghost-branch_not
ghost-branch_not g a = g.out

abbrev pub ghost-step_to : goal.ghost-step_to
ghost-step_to g a = g.out

abbrev pub ghost-branch_if : goal.ghost-branch_if
ghost-branch_if g a = g.out

abbrev pub ghost-branch_unless : goal.ghost-branch_unless
ghost-branch_unless g a = g.out
