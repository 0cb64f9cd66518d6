use Rattle.abc_run_dispatch.proofs.finding.run_find.Given as goal

abbrev pub ghost-find_strictly : goal.ghost-find_strictly
ghost-find_strictly g a = g.out

abbrev pub ghost-find_or_global : goal.ghost-find_or_global
ghost-find_or_global g a = g.out

abbrev pub ghost-get_lexical : goal.ghost-get_lexical
ghost-get_lexical g a = g.out
