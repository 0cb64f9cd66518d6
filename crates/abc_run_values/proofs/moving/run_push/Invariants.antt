use Rattle.abc_run_values.proofs.moving.run_push.Given as goal

abbrev pub ghost-push_value : goal.ghost-push_value
ghost-push_value g a = g.out

abbrev pub ghost-drop_top : goal.ghost-drop_top
ghost-drop_top g a = g.out

abbrev pub ghost-double_top : goal.ghost-double_top
ghost-double_top g a = g.out

abbrev pub ghost-exchange : goal.ghost-exchange
ghost-exchange g a = g.out
