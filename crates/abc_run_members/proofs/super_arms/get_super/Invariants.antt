use Rattle.abc_run_members.proofs.super_arms.get_super.Given as goal

abbrev pub ghost-name_of : goal.ghost-name_of
ghost-name_of g a = g.out

abbrev pub ghost-read_super : goal.ghost-read_super
ghost-read_super g a = g.out
