use Rattle.abc_base_trees.proofs.Paths.{IsPassed}
use Rattle.abc_base_trees.proofs.stabs.Stabs.is_free.Given as goal

abbrev pub invariant-loop-node : goal.invariant-loop-node
invariant-loop-node l = IsPassed l.self l.place l.node

abbrev pub decreases-loop-node : goal.decreases-loop-node
decreases-loop-node l = l.node
