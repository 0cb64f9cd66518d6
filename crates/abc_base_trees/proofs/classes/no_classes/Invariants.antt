use Rattle.std.proofs.Common.{◌≡◌, replicate, None}
use Rattle.abc_base_trees.proofs.classes.no_classes.Given as goal

abbrev pub invariant-loop-node : goal.invariant-loop-node
invariant-loop-node l = l.classes ≡ replicate l._node None
