use Rattle.abc_run_values.proofs.locals.run_local.Given as goal

abbrev pub ghost-read_local : goal.ghost-read_local
ghost-read_local g a = g.out

abbrev pub ghost-take_local : goal.ghost-take_local
ghost-take_local g a = g.out
