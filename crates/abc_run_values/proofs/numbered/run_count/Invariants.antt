use Rattle.abc_run_values.proofs.numbered.run_count.Given as goal

abbrev pub ghost-count_local : goal.ghost-count_local
ghost-count_local g a = g.out
