use Rattle.abc_run_dispatch.proofs.arms.return_arm.Given as goal

abbrev pub ghost-run_return_fast : goal.ghost-run_return_fast
ghost-run_return_fast g a = g.out

abbrev pub ghost-run_return : goal.ghost-run_return
ghost-run_return g a = g.out
