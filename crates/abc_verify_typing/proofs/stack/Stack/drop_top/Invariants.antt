use Rattle.std.proofs.Common.{◌≡◌, drop}
use Rattle.abc_verify_typing.proofs.stack.Stack.drop_top.Given as goal

abbrev pub invariant-loop-left : goal.invariant-loop-left
invariant-loop-left g l = drop l.left l.self ≡ drop l.count l.initial.self

abbrev pub decreases-loop-left : goal.decreases-loop-left
decreases-loop-left g l = l.left
