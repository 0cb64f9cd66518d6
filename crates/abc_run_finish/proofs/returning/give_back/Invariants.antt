use Rattle.abc_run_finish.proofs.returning.give_back.Given as goal

abbrev pub ghost-resume : goal.ghost-resume
ghost-resume g a = g.out
