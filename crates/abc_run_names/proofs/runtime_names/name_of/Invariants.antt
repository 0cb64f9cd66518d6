use Rattle.abc_run_names.proofs.runtime_names.name_of.Given as goal

abbrev pub ghost-name_from : goal.ghost-name_from
ghost-name_from g a = g.out
