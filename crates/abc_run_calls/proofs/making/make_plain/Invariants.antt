use Rattle.abc_run_calls.proofs.making.make_plain.Given as goal

abbrev pub ghost-plain_of : goal.ghost-plain_of
ghost-plain_of g a = g.out
