use Rattle.abc_run_members.proofs.scope_arms.find_or_global.Given as goal

abbrev pub ghost-name_of : goal.ghost-name_of
ghost-name_of g a = g.out

abbrev pub ghost-push_or_global : goal.ghost-push_or_global
ghost-push_or_global g a = g.out
