use Rattle.abc_run_members.proofs.found.construct_found.Given as goal

abbrev pub ghost-construct_getter : goal.ghost-construct_getter
ghost-construct_getter g a = g.out

abbrev pub ghost-construct_value : goal.ghost-construct_value
ghost-construct_value g a = g.out
