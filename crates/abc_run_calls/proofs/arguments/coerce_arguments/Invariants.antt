use Rattle.abc_run_calls.proofs.Coerced.{AreMade}
use Rattle.abc_run_calls.proofs.arguments.coerce_arguments.Given as goal

abbrev pub ghost-coerce_argument : goal.ghost-coerce_argument
ghost-coerce_argument g a = g.out

abbrev pub invariant-loop-k : goal.invariant-loop-k
invariant-loop-k g l = AreMade l.linked g.out l.method l.count l.k l.fn.s l.s
