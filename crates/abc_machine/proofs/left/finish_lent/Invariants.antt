use Rattle.abc_machine.proofs.left.finish_lent.Given as goal

abbrev pub ghost-finish : goal.ghost-finish
ghost-finish g a = g.out
