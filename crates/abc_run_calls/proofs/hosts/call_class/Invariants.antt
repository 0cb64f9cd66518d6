use Rattle.abc_run_calls.proofs.hosts.call_class.Given as goal

abbrev pub ghost-coerce : goal.ghost-coerce
ghost-coerce g a = g.out
