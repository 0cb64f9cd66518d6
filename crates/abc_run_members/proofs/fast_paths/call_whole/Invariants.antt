use Rattle.abc_run_members.proofs.fast_paths.call_whole.Given as goal

abbrev pub ghost-call_on_object : goal.ghost-call_on_object
ghost-call_on_object g a = g.out

abbrev pub ghost-call_searching : goal.ghost-call_searching
ghost-call_searching g a = g.out
