use Rattle.abc_run_state.proofs.pairs.new_object.Given as goal

abbrev pub ghost-spell_names : goal.ghost-spell_names
ghost-spell_names g a = g.out
