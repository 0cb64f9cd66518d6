use Rattle.abc_run_members.proofs.fast_paths.call_on_object.Given as goal

abbrev pub ghost-call_object_method : goal.ghost-call_object_method
ghost-call_object_method g a = g.out

abbrev pub ghost-call_searching : goal.ghost-call_searching
ghost-call_searching g a = g.out
