use Rattle.std.proofs.Common.{arith}
use Rattle.abc_heap_store.specs.Heap.{properties_of}
use Rattle.abc_heap_store.specs.View.{objects}
use Rattle.abc_heap_store.proofs.Gaps.{both_empty}
use Rattle.abc_heap_store.proofs.empties.are_empty.Goals as goal

pub returns : goal.returns
returns c = λ e. both_empty (properties_of (objects c.args.cells.now.items 0 c.args.heads.now.items) c.args.o) c.args.k c.args.size _ _ c.empty_from-low.ensures.empty c.empty_from-high.ensures.empty (omega arith) (omega arith)
