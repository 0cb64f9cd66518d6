use Rattle.std.proofs.Common.{◌≡◌, ◌++◌, take}
use Rattle.abc_verify_flow.proofs.kept.add_operands.Given as goal

abbrev pub invariant-loop-depth : goal.invariant-loop-depth
invariant-loop-depth l = l.list ≡ l.initial.list ++ take l.depth l.stack
