use Rattle.abc_run_names.proofs.deleting.delete_property.Given as goal

abbrev pub ghost-name_of : goal.ghost-name_of
ghost-name_of g a = g.out
