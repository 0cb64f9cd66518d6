use Rattle.std.proofs.Common.{◌∙◌, sym}
use Rattle.abc_heap_store.specs.Heap.{properties_of}
use Rattle.abc_heap_store.specs.View.{objects}
use Rattle.abc_heap_store.proofs.Positions.{next_run}
use Rattle.abc_heap_store.proofs.empties.next_from.Goals as goal

pub returns-then-empty-eq0 : goal.returns-then-empty-eq0
returns-then-empty-eq0 c = sym (c.loop-at.invariant ∙ c.empty_from-empty.ensures.filled c.if-empty-eq0.true)

pub loop-at-preserved : goal.loop-at-preserved
loop-at-preserved c = c.loop-at.invariant ∙ next_run (properties_of (objects c.args.cells.now.items 0 c.args.heads.now.items) c.args.o) c.loop-at.at c.empty_from-empty.result c.empty_from-empty.ensures.empty
