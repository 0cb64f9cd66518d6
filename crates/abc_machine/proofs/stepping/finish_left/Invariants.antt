use Rattle.abc_machine.proofs.stepping.finish_left.Given as goal

abbrev pub ghost-finish_returned : goal.ghost-finish_returned
ghost-finish_returned g a = g.out

abbrev pub ghost-finish_any : goal.ghost-finish_any
ghost-finish_any g a = g.out
