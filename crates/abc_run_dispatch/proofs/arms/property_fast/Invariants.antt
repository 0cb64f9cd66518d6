use Rattle.abc_run_dispatch.proofs.arms.property_fast.Given as goal

abbrev pub ghost-run_element_fast : goal.ghost-run_element_fast
ghost-run_element_fast g a = g.out

abbrev pub ghost-property_arm : goal.ghost-property_arm
ghost-property_arm g a = g.out
