use Rattle.abc_run_values.proofs.branching.run_switch.Given as goal

abbrev pub ghost-switch : goal.ghost-switch
ghost-switch g a = g.out
