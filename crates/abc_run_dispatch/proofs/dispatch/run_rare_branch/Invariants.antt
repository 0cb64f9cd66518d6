use Rattle.abc_run_dispatch.proofs.dispatch.run_rare_branch.Given as goal

abbrev pub ghost-first_branch_arm : goal.ghost-first_branch_arm
ghost-first_branch_arm g a = g.out

abbrev pub ghost-last_branch_arm : goal.ghost-last_branch_arm
ghost-last_branch_arm g a = g.out
