use Rattle.std.proofs.Common.{subst}
use Rattle.abc_heap_values.specs.declared.values.Value.{Value}
use Rattle.abc_run_state.specs.OfType.{IsOfNamed}
use Rattle.abc_run_calls.proofs.keeping.is_argument_of.Goals as goal

pub returns : goal.returns
returns c = λ e. subst (λ (x : Value). IsOfNamed c.args.linked.now c.args.ty x) c.operand.ensures.is (c.is_of_named.ensures e)
