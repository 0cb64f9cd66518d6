use Rattle.abc_machine.proofs.left.finish_logged.Given as goal

abbrev pub ghost-finish_lent : goal.ghost-finish_lent
ghost-finish_lent g a = g.out
