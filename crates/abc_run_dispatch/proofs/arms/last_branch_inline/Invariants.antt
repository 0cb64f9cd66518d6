use Rattle.abc_run_dispatch.proofs.arms.last_branch_inline.Given as goal

abbrev pub ghost-run_last_branch : goal.ghost-run_last_branch
ghost-run_last_branch g a = g.out
