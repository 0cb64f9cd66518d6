use Rattle.std.proofs.Common.{◌≡◌, ◌+◌, ◌++◌, drop, length}
use Rattle.abc_heap_store.specs.Scopes.{nodes, top_of_scopes}
use Rattle.abc_heap_store.proofs.scopes.capture.Given as goal

abbrev pub invariant-loop-entry : goal.invariant-loop-entry
invariant-loop-entry l =
    (l.scopes.limit ≡ l.initial.scopes.limit)
    × (length l.scopes.items ≡ length l.initial.scopes.items + l.entry-index)
    × (l.scopes.items ++ nodes (length l.scopes.items) l.parent (drop l.entry-index l.entries) ≡ l.initial.scopes.items ++ nodes (length l.initial.scopes.items) l.initial.parent l.entries)
    × (top_of_scopes (length l.scopes.items) l.parent (drop l.entry-index l.entries) ≡ top_of_scopes (length l.initial.scopes.items) l.initial.parent l.entries)
