use Rattle.std.proofs.Common.{◌∙◌, ap, arith, length, refl, sym}
use Rattle.abc_heap_store.specs.Heap.{Heap}
use Rattle.abc_objects.proofs.Steps.{length_small, no_properties, property_next, property_room, start_next, start_small, start_within}
use Rattle.abc_objects.proofs.opening.add_properties.Goals as goal

pub loop-name-init : goal.loop-name-init
loop-name-init c = (sym (no_properties c.args.o.0 c.args.store.now), refl, omega arith)

pub overflow_cast-len : goal.overflow_cast-len
overflow_cast-len c = omega (arith, length_small c.args.names.now c.loop-name.name-index _ _ c.loop-name-test.true (c.len-size.ensures ∙ ap length c.name-item.is) c.requires.short)

pub add_property-requires-clause-inside : goal.add_property-requires-clause-inside
add_property-requires-clause-inside c = (property_room c.args.store.now _ c.args.o.0 c.loop-name.name-index (length c.args.names.now) c.args.names.now c.loop-name.invariant.0 c.loop-name-test.true refl c.requires.inside c.requires.room).0

pub add_property-requires-clause-room : goal.add_property-requires-clause-room
add_property-requires-clause-room c = (property_room c.args.store.now _ c.args.o.0 c.loop-name.name-index (length c.args.names.now) c.args.names.now c.loop-name.invariant.0 c.loop-name-test.true refl c.requires.inside c.requires.room).1.1

pub add_property-requires-clause-name : goal.add_property-requires-clause-name
add_property-requires-clause-name c = start_within c.args.names.now c.loop-name.name-index _ _ _ _ c.loop-name-test.true c.loop-name.invariant.1 (c.len-size.ensures ∙ ap length c.name-item.is) (omega (arith, c.requires.bytes, ap (λ (h : Heap). length h.fixed) c.loop-name.invariant.0))

pub overflow_add-start : goal.overflow_add-start
overflow_add-start c = omega (arith, start_small c.args.names.now c.loop-name.name-index _ _ _ c.loop-name-test.true c.loop-name.invariant.1 (c.len-size.ensures ∙ ap length c.name-item.is) c.requires.short)

pub loop-name-preserved : goal.loop-name-preserved
loop-name-preserved c = (
  property_next c.args.store.now _ _ c.args.o.0 c.loop-name.name-index _ _ _ c.args.names.now _ c.loop-name-test.true c.loop-name.invariant.0 c.loop-name.invariant.1 c.loop-name.invariant.2 (c.len-size.ensures ∙ ap length c.name-item.is) c.add_property.ensures,
  start_next c.args.names.now c.loop-name.name-index _ _ _ c.loop-name-test.true c.loop-name.invariant.1 (c.len-size.ensures ∙ ap length c.name-item.is),
  omega arith,
)
