use Rattle.abc_run_members.proofs.super_arms.call_super.Given as goal

abbrev pub ghost-name_of : goal.ghost-name_of
ghost-name_of g a = g.out

abbrev pub ghost-call_super_on : goal.ghost-call_super_on
ghost-call_super_on g a = g.out
