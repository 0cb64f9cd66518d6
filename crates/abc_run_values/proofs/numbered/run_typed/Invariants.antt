use Rattle.abc_run_values.proofs.numbered.run_typed.Given as goal

abbrev pub ghost-coerce_to : goal.ghost-coerce_to
ghost-coerce_to g a = g.out

abbrev pub ghost-as_type : goal.ghost-as_type
ghost-as_type g a = g.out

abbrev pub ghost-is_type : goal.ghost-is_type
ghost-is_type g a = g.out
