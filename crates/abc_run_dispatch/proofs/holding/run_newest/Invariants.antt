use Rattle.abc_run_dispatch.proofs.holding.run_newest.Given as goal

abbrev pub ghost-run_held : goal.ghost-run_held
ghost-run_held g a = g.out
