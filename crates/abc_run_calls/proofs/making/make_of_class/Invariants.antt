use Rattle.abc_run_calls.proofs.making.make_of_class.Given as goal

abbrev pub ghost-convert_only : goal.ghost-convert_only
ghost-convert_only g a = g.out

abbrev pub ghost-make_plain : goal.ghost-make_plain
ghost-make_plain g a = g.out
