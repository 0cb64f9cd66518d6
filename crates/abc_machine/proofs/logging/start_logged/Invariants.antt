use Rattle.abc_machine.proofs.logging.start_logged.Given as goal

abbrev pub ghost-start_last : goal.ghost-start_last
ghost-start_last g a = g.out
