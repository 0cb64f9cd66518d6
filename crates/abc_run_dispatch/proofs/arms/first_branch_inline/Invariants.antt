use Rattle.abc_run_dispatch.proofs.arms.first_branch_inline.Given as goal

abbrev pub ghost-run_first_branch : goal.ghost-run_first_branch
ghost-run_first_branch g a = g.out
