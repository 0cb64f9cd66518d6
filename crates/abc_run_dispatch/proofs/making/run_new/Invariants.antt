use Rattle.abc_run_dispatch.proofs.making.run_new.Given as goal

abbrev pub ghost-new_object : goal.ghost-new_object
ghost-new_object g a = g.out

abbrev pub ghost-make_catch : goal.ghost-make_catch
ghost-make_catch g a = g.out
