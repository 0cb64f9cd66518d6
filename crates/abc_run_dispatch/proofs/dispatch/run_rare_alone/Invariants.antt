use Rattle.abc_run_dispatch.proofs.dispatch.run_rare_alone.Given as goal

abbrev pub ghost-control_arm : goal.ghost-control_arm
ghost-control_arm g a = g.out

abbrev pub ghost-walk_arm : goal.ghost-walk_arm
ghost-walk_arm g a = g.out

abbrev pub ghost-push_arm : goal.ghost-push_arm
ghost-push_arm g a = g.out

abbrev pub ghost-return_arm : goal.ghost-return_arm
ghost-return_arm g a = g.out

abbrev pub ghost-scope_arm : goal.ghost-scope_arm
ghost-scope_arm g a = g.out

abbrev pub ghost-convert_arm : goal.ghost-convert_arm
ghost-convert_arm g a = g.out

abbrev pub ghost-late_arm : goal.ghost-late_arm
ghost-late_arm g a = g.out

abbrev pub ghost-single_arm : goal.ghost-single_arm
ghost-single_arm g a = g.out

abbrev pub ghost-double_arm : goal.ghost-double_arm
ghost-double_arm g a = g.out

abbrev pub ghost-comparison_arm : goal.ghost-comparison_arm
ghost-comparison_arm g a = g.out

abbrev pub ghost-local_arm : goal.ghost-local_arm
ghost-local_arm g a = g.out
