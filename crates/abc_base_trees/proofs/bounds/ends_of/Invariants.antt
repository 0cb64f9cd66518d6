use Rattle.abc_base_trees.proofs.Pieces.{AreBoundsTo}
use Rattle.abc_base_trees.proofs.bounds.ends_of.Given as goal

abbrev pub invariant-loop-range : goal.invariant-loop-range
invariant-loop-range l = AreBoundsTo l.ranges l.range-index l.ends.items
