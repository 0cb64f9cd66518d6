use Rattle.abc_run_members.proofs.fast_paths.puts_value.Given as goal

abbrev pub ghost-puts : goal.ghost-puts
ghost-puts g a = g.out
