use Rattle.abc_run_calls.proofs.entering.enter.Given as goal

abbrev pub ghost-enters_at_once : goal.ghost-enters_at_once
ghost-enters_at_once g a = g.out

abbrev pub ghost-enter_prepared : goal.ghost-enter_prepared
ghost-enter_prepared g a = g.out
