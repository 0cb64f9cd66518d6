use Rattle.abc_run_members.proofs.fast_paths.set_property_fast.Given as goal

abbrev pub ghost-whole_name : goal.ghost-whole_name
ghost-whole_name g a = g.out

abbrev pub ghost-sets_whole : goal.ghost-sets_whole
ghost-sets_whole g a = g.out
