use Rattle.abc_base_trees.specs.Adding.{HangFrom}
use Rattle.abc_base_trees.proofs.building.stabs_of.Given as goal

abbrev pub invariant-loop-number : goal.invariant-loop-number
invariant-loop-number l = HangFrom l.ranges l.number l.stabs

abbrev pub decreases-loop-number : goal.decreases-loop-number
decreases-loop-number l = l.number
