use Rattle.std.proofs.Common.{◌≡◌, ◌-◌}
use Rattle.abc_heap_store.specs.Properties.{next_filled}
use Rattle.abc_heap_store.specs.Heap.{properties_of}
use Rattle.abc_heap_store.specs.View.{objects}
use Rattle.abc_heap_store.proofs.empties.next_from.Given as goal

abbrev pub invariant-loop-at : goal.invariant-loop-at
invariant-loop-at l = next_filled (properties_of (objects l.cells.items 0 l.heads.items) l.o) l.from ≡ next_filled (properties_of (objects l.cells.items 0 l.heads.items) l.o) l.at

abbrev pub decreases-loop-at : goal.decreases-loop-at
decreases-loop-at l = l.count - l.at
