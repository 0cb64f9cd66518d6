use Rattle.abc_run_values.proofs.moving.run_control.Given as goal

abbrev pub ghost-step_on : goal.ghost-step_on
ghost-step_on g a = g.out

abbrev pub ghost-throw_top : goal.ghost-throw_top
ghost-throw_top g a = g.out

abbrev pub ghost-enter_scope : goal.ghost-enter_scope
ghost-enter_scope g a = g.out

abbrev pub ghost-leave_scope : goal.ghost-leave_scope
ghost-leave_scope g a = g.out
