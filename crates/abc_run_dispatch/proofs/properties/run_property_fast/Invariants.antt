use Rattle.abc_run_dispatch.proofs.properties.run_property_fast.Given as goal

abbrev pub ghost-set_property_fast : goal.ghost-set_property_fast
ghost-set_property_fast g a = g.out

abbrev pub ghost-get_property_fast : goal.ghost-get_property_fast
ghost-get_property_fast g a = g.out
