use Rattle.abc_run_members.proofs.lexical.get_lexical.Given as goal

abbrev pub ghost-name_of : goal.ghost-name_of
ghost-name_of g a = g.out

abbrev pub ghost-read_in : goal.ghost-read_in
ghost-read_in g a = g.out
