use Rattle.abc_run_finish.proofs.stopping.stopped.Given as goal

abbrev pub ghost-throw : goal.ghost-throw
ghost-throw g a = g.out

abbrev pub ghost-fault_at : goal.ghost-fault_at
ghost-fault_at g a = g.out
