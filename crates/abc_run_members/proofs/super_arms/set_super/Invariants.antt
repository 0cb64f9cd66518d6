use Rattle.abc_run_members.proofs.super_arms.set_super.Given as goal

abbrev pub ghost-name_of : goal.ghost-name_of
ghost-name_of g a = g.out

abbrev pub ghost-write_super : goal.ghost-write_super
ghost-write_super g a = g.out
