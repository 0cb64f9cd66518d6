use Rattle.abc_run_names.proofs.runtime_names.with_both.Given as goal

abbrev pub ghost-spell : goal.ghost-spell
ghost-spell g a = g.out
