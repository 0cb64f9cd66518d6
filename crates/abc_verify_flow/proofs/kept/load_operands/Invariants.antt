use Rattle.std.proofs.Common.{◌≡◌, ◌≤◌, drop, length}
use Rattle.abc_verify_flow.proofs.kept.load_operands.Given as goal

abbrev pub invariant-loop-depth : goal.invariant-loop-depth
invariant-loop-depth l = (l.depth ≤ length l.operands) × (l.stack ≡ drop l.depth l.operands)

abbrev pub decreases-loop-depth : goal.decreases-loop-depth
decreases-loop-depth l = l.depth
