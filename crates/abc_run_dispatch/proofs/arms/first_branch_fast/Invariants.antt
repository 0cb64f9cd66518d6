use Rattle.abc_run_dispatch.proofs.arms.first_branch_fast.Given as goal

abbrev pub ghost-first_branch_inline : goal.ghost-first_branch_inline
ghost-first_branch_inline g a = g.out

abbrev pub ghost-first_branch_arm : goal.ghost-first_branch_arm
ghost-first_branch_arm g a = g.out
