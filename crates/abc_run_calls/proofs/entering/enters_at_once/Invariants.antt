use Rattle.abc_run_calls.proofs.entering.enters_at_once.Given as goal

abbrev pub ghost-enters_in_place : goal.ghost-enters_in_place
ghost-enters_in_place g a = g.out
