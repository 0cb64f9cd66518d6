use Rattle.abc_run_calls.proofs.making.make_instance.Given as goal

abbrev pub ghost-prepare : goal.ghost-prepare
ghost-prepare g a = g.out

abbrev pub ghost-put_on : goal.ghost-put_on
ghost-put_on g a = g.out
