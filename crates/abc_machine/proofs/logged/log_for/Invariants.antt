use Rattle.abc_machine.proofs.logged.log_for.Given as goal

abbrev pub ghost-log_steps : goal.ghost-log_steps
ghost-log_steps g a = g.begun
