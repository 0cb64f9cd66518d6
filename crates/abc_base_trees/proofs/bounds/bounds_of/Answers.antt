use Rattle.std.proofs.lemmas.List.Sorted.{IsNonDecreasingBy-from_sort}
use Rattle.abc_base_trees.proofs.Pieces.{moved_bounds}
use Rattle.abc_base_trees.proofs.bounds.bounds_of.Goals as goal

pub returns-clause-bounds : goal.returns-clause-bounds
returns-clause-bounds c = moved_bounds _ _ _ c.sort_unstable.ensures.permutation c.in_ok-bounds.ensures.bounds

pub returns-clause-sorted : goal.returns-clause-sorted
returns-clause-sorted c = IsNonDecreasingBy-from_sort (λ b. b) _ c.sort_unstable.ensures.sorted
