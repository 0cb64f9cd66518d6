use Rattle.abc_run_dispatch.proofs.arms.last_branch_fast.Given as goal

abbrev pub ghost-last_branch_inline : goal.ghost-last_branch_inline
ghost-last_branch_inline g a = g.out

abbrev pub ghost-last_branch_arm : goal.ghost-last_branch_arm
ghost-last_branch_arm g a = g.out
