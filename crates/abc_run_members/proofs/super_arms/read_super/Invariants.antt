use Rattle.abc_run_members.proofs.super_arms.read_super.Given as goal

abbrev pub ghost-read_found : goal.ghost-read_found
ghost-read_found g a = g.out
