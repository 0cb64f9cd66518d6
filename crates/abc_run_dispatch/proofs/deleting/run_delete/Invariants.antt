use Rattle.abc_run_dispatch.proofs.deleting.run_delete.Given as goal

abbrev pub ghost-delete_property : goal.ghost-delete_property
ghost-delete_property g a = g.out
