use Rattle.abc_run_finish.proofs.calling.enter_alone.Given as goal

abbrev pub ghost-place_of_owner : goal.ghost-place_of_owner
ghost-place_of_owner g a = g.out

abbrev pub ghost-prepare : goal.ghost-prepare
ghost-prepare g a = g.out

abbrev pub ghost-put_alone : goal.ghost-put_alone
ghost-put_alone g a = g.out
