use Rattle.abc_run_members.proofs.fast_paths.puts_at_once.Given as goal

abbrev pub ghost-puts : goal.ghost-puts
ghost-puts g a = g.out

abbrev pub ghost-puts_value : goal.ghost-puts_value
ghost-puts_value g a = g.out
