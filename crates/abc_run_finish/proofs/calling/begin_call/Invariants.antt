use Rattle.abc_run_finish.proofs.calling.begin_call.Given as goal

abbrev pub ghost-enter_alone : goal.ghost-enter_alone
ghost-enter_alone g a = g.out

abbrev pub ghost-call_stopped : goal.ghost-call_stopped
ghost-call_stopped g a = g.out
