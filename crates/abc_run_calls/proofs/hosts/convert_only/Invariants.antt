use Rattle.abc_run_calls.proofs.hosts.convert_only.Given as goal

abbrev pub ghost-convert : goal.ghost-convert
ghost-convert g a = g.out
