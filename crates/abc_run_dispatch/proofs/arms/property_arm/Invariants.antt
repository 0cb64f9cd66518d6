use Rattle.abc_run_dispatch.proofs.arms.property_arm.Given as goal

abbrev pub ghost-run_property_fast : goal.ghost-run_property_fast
ghost-run_property_fast g a = g.out

abbrev pub ghost-run_property : goal.ghost-run_property
ghost-run_property g a = g.out
