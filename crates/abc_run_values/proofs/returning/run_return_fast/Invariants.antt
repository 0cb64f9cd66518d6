use Rattle.abc_run_values.proofs.returning.run_return_fast.Given as goal

abbrev pub ghost-returns_number : goal.ghost-returns_number
ghost-returns_number g a = g.out
