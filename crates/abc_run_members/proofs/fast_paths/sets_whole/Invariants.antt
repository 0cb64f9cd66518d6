use Rattle.abc_run_members.proofs.fast_paths.sets_whole.Given as goal

abbrev pub ghost-sets_on_object : goal.ghost-sets_on_object
ghost-sets_on_object g a = g.out
