use Rattle.abc_run_dispatch.proofs.properties.run_property.Given as goal

abbrev pub ghost-set_property : goal.ghost-set_property
ghost-set_property g a = g.out

abbrev pub ghost-get_property : goal.ghost-get_property
ghost-get_property g a = g.out

abbrev pub ghost-run_delete : goal.ghost-run_delete
ghost-run_delete g a = g.out
