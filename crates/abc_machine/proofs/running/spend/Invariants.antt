use Rattle.abc_machine.proofs.running.spend.Given as goal

abbrev pub ghost-step_on : goal.ghost-step_on
ghost-step_on g a = g.out
