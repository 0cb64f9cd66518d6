use Rattle.abc_run_members.proofs.lexical.read_in.Given as goal

abbrev pub ghost-start_above : goal.ghost-start_above
ghost-start_above g a = g.out

abbrev pub ghost-read_on : goal.ghost-read_on
ghost-read_on g a = g.out
