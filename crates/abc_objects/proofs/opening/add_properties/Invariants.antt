use Rattle.std.proofs.Common.{◌≡◌, ◌+◌, length, take}
use Rattle.std.specs.List.{concat}
use Rattle.abc_heap_store.specs.Changes.{with_object}
use Rattle.abc_objects.specs.Opening.{host_properties, spans_from, with_more_properties}
use Rattle.abc_objects.proofs.opening.add_properties.Given as goal

abbrev pub invariant-loop-name : goal.invariant-loop-name
invariant-loop-name v =
    (v.store ≡ with_object (with_more_properties (host_properties 14 (spans_from 62 (take v.name-index v.names)))) v.o.0 v.initial.store)
    × (v.start ≡ 62 + length (concat (take v.name-index v.names)))
    × (v.object ≡ 14 + v.name-index)
