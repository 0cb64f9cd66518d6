use Rattle.abc_heap_store.proofs.store.Store.next_property.Goals as goal

pub next_from-requires-clause-gaps : goal.next_from-requires-clause-gaps
next_from-requires-clause-gaps c = c.self.invariant.index.gaps
