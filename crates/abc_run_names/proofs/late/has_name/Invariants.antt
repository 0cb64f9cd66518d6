use Rattle.abc_run_names.proofs.late.has_name.Given as goal

abbrev pub ghost-spell : goal.ghost-spell
ghost-spell g a = g.out
