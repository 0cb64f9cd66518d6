use Rattle.abc_heap_values.specs.Links.{links, IsCellReached}
use Rattle.abc_heap_values.proofs.chain.place_of.Given as goal

abbrev pub invariant-loop-place : goal.invariant-loop-place
invariant-loop-place l = IsCellReached (links l.cells.items) l.from l.place l.position

abbrev pub decreases-loop-place : goal.decreases-loop-place
decreases-loop-place l = l.place
