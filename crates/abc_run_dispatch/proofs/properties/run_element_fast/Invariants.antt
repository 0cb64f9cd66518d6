use Rattle.abc_run_dispatch.proofs.properties.run_element_fast.Given as goal

abbrev pub ghost-set_element_fast : goal.ghost-set_element_fast
ghost-set_element_fast g a = g.out

abbrev pub ghost-get_element_fast : goal.ghost-get_element_fast
ghost-get_element_fast g a = g.out
