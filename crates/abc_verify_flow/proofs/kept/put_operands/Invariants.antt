use Rattle.std.proofs.Common.{◌≡◌}
use Rattle.std.proofs.Math.Seq.{paste}
use Rattle.abc_verify_flow.proofs.kept.put_operands.Given as goal

abbrev pub invariant-loop-depth : goal.invariant-loop-depth
invariant-loop-depth l = l.list ≡ paste l.initial.list l.span.first l.stack l.depth
