use Rattle.abc_machine.proofs.stepping.finish_returned.Given as goal

abbrev pub ghost-finish : goal.ghost-finish
ghost-finish g a = g.out
