use Rattle.abc_run_members.proofs.super_arms.write_super.Given as goal

abbrev pub ghost-write_found : goal.ghost-write_found
ghost-write_found g a = g.out
