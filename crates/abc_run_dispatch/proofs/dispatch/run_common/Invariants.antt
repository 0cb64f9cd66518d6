use Rattle.abc_run_dispatch.proofs.dispatch.run_common.Given as goal

abbrev pub ghost-control_inline : goal.ghost-control_inline
ghost-control_inline g a = g.out

abbrev pub ghost-first_branch_fast : goal.ghost-first_branch_fast
ghost-first_branch_fast g a = g.out

abbrev pub ghost-first_branch_inline : goal.ghost-first_branch_inline
ghost-first_branch_inline g a = g.out

abbrev pub ghost-last_branch_fast : goal.ghost-last_branch_fast
ghost-last_branch_fast g a = g.out

abbrev pub ghost-push_arm : goal.ghost-push_arm
ghost-push_arm g a = g.out

abbrev pub ghost-constant_inline : goal.ghost-constant_inline
ghost-constant_inline g a = g.out

abbrev pub ghost-property_call_arm : goal.ghost-property_call_arm
ghost-property_call_arm g a = g.out

abbrev pub ghost-return_arm : goal.ghost-return_arm
ghost-return_arm g a = g.out

abbrev pub ghost-find_arm : goal.ghost-find_arm
ghost-find_arm g a = g.out

abbrev pub ghost-property_fast : goal.ghost-property_fast
ghost-property_fast g a = g.out

abbrev pub ghost-slot_arm : goal.ghost-slot_arm
ghost-slot_arm g a = g.out

abbrev pub ghost-convert_fast : goal.ghost-convert_fast
ghost-convert_fast g a = g.out

abbrev pub ghost-single_arm : goal.ghost-single_arm
ghost-single_arm g a = g.out

abbrev pub ghost-double_fast : goal.ghost-double_fast
ghost-double_fast g a = g.out

abbrev pub ghost-count_arm : goal.ghost-count_arm
ghost-count_arm g a = g.out

abbrev pub ghost-local_arm : goal.ghost-local_arm
ghost-local_arm g a = g.out

abbrev pub ghost-run_other : goal.ghost-run_other
ghost-run_other g a = g.out
