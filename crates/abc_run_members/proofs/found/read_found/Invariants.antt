use Rattle.abc_run_members.proofs.found.read_found.Given as goal

abbrev pub ghost-enter_on : goal.ghost-enter_on
ghost-enter_on g a = g.out

abbrev pub ghost-read_value : goal.ghost-read_value
ghost-read_value g a = g.out
