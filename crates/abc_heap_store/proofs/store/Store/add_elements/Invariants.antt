use Rattle.std.proofs.Common.{◌≡◌, take}
use Rattle.abc_heap_store.specs.Changes.{with_object, with_more_elements}
use Rattle.abc_heap_store.proofs.store.Store.add_elements.Given as goal

abbrev pub invariant-loop-element : goal.invariant-loop-element
invariant-loop-element l = l.self ≡ with_object (with_more_elements (take l.element-index l.elements)) l.o.0 l.initial.self
