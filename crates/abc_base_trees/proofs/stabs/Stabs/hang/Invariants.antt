use Rattle.abc_base_trees.proofs.Adding.{IsHanging}
use Rattle.abc_base_trees.proofs.stabs.Stabs.hang.Given as goal

abbrev pub invariant-loop-low : goal.invariant-loop-low
invariant-loop-low l = IsHanging l.number l.from l.to l.initial.self l.self l.low l.high

abbrev pub decreases-loop-low : goal.decreases-loop-low
decreases-loop-low l = l.high
