use Rattle.abc_run_members.proofs.fast_paths.gets_whole.Given as goal

abbrev pub ghost-gets_on_object : goal.ghost-gets_on_object
ghost-gets_on_object g a = g.out
