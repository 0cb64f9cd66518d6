use Rattle.abc_run_members.proofs.writing.write_declared.Given as goal

abbrev pub ghost-write_at_once : goal.ghost-write_at_once
ghost-write_at_once g a = g.out
