use Rattle.abc_run_members.proofs.writing.write_found.Given as goal

abbrev pub ghost-enter_on : goal.ghost-enter_on
ghost-enter_on g a = g.out

abbrev pub ghost-write_at_once : goal.ghost-write_at_once
ghost-write_at_once g a = g.out

abbrev pub ghost-write_declared : goal.ghost-write_declared
ghost-write_declared g a = g.out
