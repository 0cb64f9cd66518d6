use Rattle.abc_run_members.proofs.makers.tell_base.Given as goal

abbrev pub ghost-message_of : goal.ghost-message_of
ghost-message_of g a = g.out
