use Rattle.abc_run_values.proofs.returning.returns_kept.Given as goal

abbrev pub ghost-returns_whole : goal.ghost-returns_whole
ghost-returns_whole g a = g.out
