use Rattle.abc_run_calls.proofs.messages.message_of.Given as goal

abbrev pub ghost-spell : goal.ghost-spell
ghost-spell g a = g.out
