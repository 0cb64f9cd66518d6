use Rattle.abc_run_members.proofs.fast_paths.get_property_fast.Given as goal

abbrev pub ghost-whole_name : goal.ghost-whole_name
ghost-whole_name g a = g.out

abbrev pub ghost-gets_whole : goal.ghost-gets_whole
ghost-gets_whole g a = g.out
