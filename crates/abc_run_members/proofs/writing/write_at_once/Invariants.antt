use Rattle.abc_run_members.proofs.writing.write_at_once.Given as goal

abbrev pub ghost-write_value : goal.ghost-write_value
ghost-write_value g a = g.out
