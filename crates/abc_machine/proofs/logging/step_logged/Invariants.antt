use Rattle.abc_machine.proofs.logging.step_logged.Given as goal

abbrev pub ghost-start_logged : goal.ghost-start_logged
ghost-start_logged g a = g.out

abbrev pub ghost-run_logged : goal.ghost-run_logged
ghost-run_logged g a = g.out
