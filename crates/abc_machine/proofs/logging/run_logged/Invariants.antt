use Rattle.abc_machine.proofs.logging.run_logged.Given as goal

abbrev pub ghost-run_newest : goal.ghost-run_newest
ghost-run_newest g a = g.out

abbrev pub ghost-finish_logged : goal.ghost-finish_logged
ghost-finish_logged g a = g.out
