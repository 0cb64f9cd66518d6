use Rattle.abc_run_calls.proofs.making.plain_of.Given as goal

abbrev pub ghost-message_of : goal.ghost-message_of
ghost-message_of g a = g.out
