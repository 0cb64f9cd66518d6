use Rattle.abc_run_values.proofs.numbered.run_constant.Given as goal

abbrev pub ghost-clear_local : goal.ghost-clear_local
ghost-clear_local g a = g.out

abbrev pub ghost-push_value : goal.ghost-push_value
ghost-push_value g a = g.out

abbrev pub ghost-read_local : goal.ghost-read_local
ghost-read_local g a = g.out

abbrev pub ghost-take_local : goal.ghost-take_local
ghost-take_local g a = g.out

abbrev pub ghost-step_on : goal.ghost-step_on
ghost-step_on g a = g.out
