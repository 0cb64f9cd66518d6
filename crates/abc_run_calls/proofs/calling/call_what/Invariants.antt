use Rattle.abc_run_calls.proofs.calling.call_what.Given as goal

abbrev pub ghost-call_function : goal.ghost-call_function
ghost-call_function g a = g.out

abbrev pub ghost-call_class : goal.ghost-call_class
ghost-call_class g a = g.out
