use Rattle.abc_run_members.proofs.scope_arms.find_strictly.Given as goal

abbrev pub ghost-name_of : goal.ghost-name_of
ghost-name_of g a = g.out

abbrev pub ghost-push_strictly : goal.ghost-push_strictly
ghost-push_strictly g a = g.out
