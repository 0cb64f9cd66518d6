use Rattle.abc_run_members.proofs.super_arms.call_super_on.Given as goal

abbrev pub ghost-call_found : goal.ghost-call_found
ghost-call_found g a = g.out
