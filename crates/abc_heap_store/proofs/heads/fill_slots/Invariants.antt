use Rattle.std.proofs.Common.{◌≡◌, ◌≤◌, ◌+◌, length, take}
use Rattle.abc_heap_values.specs.Links.{links}
use Rattle.abc_heap_store.specs.Buckets.{KeepsIndex}
use Rattle.abc_heap_store.specs.Changes.{change, with_more_slots}
use Rattle.abc_heap_store.specs.View.{objects, AreObjectHeads}
use Rattle.abc_heap_store.specs.Spots.{IsFilling}
use Rattle.abc_heap_store.proofs.heads.fill_slots.Given as goal

abbrev pub invariant-loop-k : goal.invariant-loop-k
invariant-loop-k g l =
    AreObjectHeads (links l.cells.items) l.heads.items
    × IsFilling l.cells.items l.heads.items l.o l.chain
    × (length l.cells.items ≡ length l.initial.cells.items + l.k)
    × (l.cells.limit ≡ l.initial.cells.limit)
    × (objects l.cells.items 0 l.heads.items ≡ change (with_more_slots (take l.k (g.S.Starts.values l.starts))) l.o (objects l.initial.cells.items 0 l.heads.items))
    × (l.k ≤ l.count)
    × KeepsIndex l.initial.cells l.cells
