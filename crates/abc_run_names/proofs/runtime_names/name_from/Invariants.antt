use Rattle.abc_run_names.proofs.runtime_names.name_from.Given as goal

abbrev pub ghost-with_text : goal.ghost-with_text
ghost-with_text g a = g.out

abbrev pub ghost-with_both : goal.ghost-with_both
ghost-with_both g a = g.out
