use Rattle.abc_verify.specs.Typed.{AreTyped}
use Rattle.abc_verify.proofs.checking.check_methods.Given as goal

abbrev pub invariant-loop-method : goal.invariant-loop-method
invariant-loop-method l = AreTyped l.linked l.method
