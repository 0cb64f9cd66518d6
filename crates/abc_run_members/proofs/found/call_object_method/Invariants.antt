use Rattle.abc_run_members.proofs.found.call_object_method.Given as goal

abbrev pub ghost-enters_object : goal.ghost-enters_object
ghost-enters_object g a = g.out

abbrev pub ghost-enter_slowly : goal.ghost-enter_slowly
ghost-enter_slowly g a = g.out
