use Rattle.abc_run_dispatch.proofs.scoping.run_scope.Given as goal

abbrev pub ghost-make_activation : goal.ghost-make_activation
ghost-make_activation g a = g.out

abbrev pub ghost-push_global : goal.ghost-push_global
ghost-push_global g a = g.out
