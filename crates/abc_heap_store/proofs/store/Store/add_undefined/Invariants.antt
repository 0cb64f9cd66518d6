use Rattle.std.proofs.Common.{◌≡◌}
use Rattle.std.specs.Prelude.{replicate, ◌≤◌}
use Rattle.abc_heap_values.specs.declared.values.Value.TheVariants.{Undefined}
use Rattle.abc_heap_store.specs.Changes.{with_object, with_more_elements}
use Rattle.abc_heap_store.proofs.store.Store.add_undefined.Given as goal

abbrev pub invariant-loop : goal.invariant-loop
invariant-loop l = (l.counter ≤ l.count) × (l.self ≡ with_object (with_more_elements (replicate l.counter Undefined)) l.o.0 l.initial.self)
