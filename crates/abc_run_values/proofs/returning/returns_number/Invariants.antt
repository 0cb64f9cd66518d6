use Rattle.abc_run_values.proofs.returning.returns_number.Given as goal

abbrev pub ghost-returns_kept : goal.ghost-returns_kept
ghost-returns_kept g a = g.out
