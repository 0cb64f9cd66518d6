use Rattle.abc_machine.proofs.logged.spend_logged.Given as goal

abbrev pub ghost-step_logged : goal.ghost-step_logged
ghost-step_logged g a = g.out
