use Rattle.abc_machine.proofs.running.run_for.Given as goal

abbrev pub ghost-take_steps : goal.ghost-take_steps
ghost-take_steps g a = g.begun
