use Rattle.std.proofs.Common.{◌∷◌, [], arith, length, length-append, ap}
use Rattle.abc_base.specs.declared.names.HostClass.TheVariants as hosts
use Rattle.abc_heap_store.specs.Heap.{Heap}
use Rattle.abc_heap_store.specs.declared.records.What.TheVariants as whats
use Rattle.abc_link_names.specs.declared.part.Part.TheVariants as parts
use Rattle.abc_objects.specs.Opening.{host_properties, opening_object, spans_from, with_more_properties}
use Rattle.abc_objects.proofs.Steps.{last_changed, opened_cells, plain_slots, room_on}
use Rattle.abc_objects.proofs.opening.make_host_object.Goals as goal
use Rattle.std.specs.Prelude.{Some}

pub make_part-o-requires-clause-room : goal.make_part-o-requires-clause-room
make_part-o-requires-clause-room c = (c.requires.room.0, omega (arith, c.requires.room.1, plain_slots c.args.l.now c.linked_law.ensures))

pub add_properties-requires-clause-inside : goal.add_properties-requires-clause-inside
add_properties-requires-clause-inside c =
    let ob = opening_object c.args.l.now (parts.Host hosts.Object) (Some hosts.Object) whats.HostObject in
    omega (arith, c.make_part-o.ensures.number, ap (λ (y : Heap). length y.objects) c.make_part-o.ensures.heap, length-append c.args.store.now.objects (ob ∷ []))

pub add_properties-requires-clause-room : goal.add_properties-requires-clause-room
add_properties-requires-clause-room c =
    let l = c.args.l.now in
    let ob = opening_object l (parts.Host hosts.Object) (Some hosts.Object) whats.HostObject in
    room_on c.args.store.now _ (ob ∷ []) 1 (length c.args.names.now) 0 (length c.args.names.now) c.make_part-o.ensures.heap c.requires.room (omega arith)
    (omega (arith, opened_cells l (parts.Host hosts.Object) (Some hosts.Object) whats.HostObject, plain_slots l c.linked_law.ensures))

pub add_properties-requires-clause-bytes : goal.add_properties-requires-clause-bytes
add_properties-requires-clause-bytes c = omega (arith, c.requires.bytes, ap (λ (y : Heap). length y.fixed) c.make_part-o.ensures.heap)

pub returns : goal.returns
returns c =
    let ob = opening_object c.args.l.now (parts.Host hosts.Object) (Some hosts.Object) whats.HostObject in
    last_changed c.args.store.now _ _ ob (with_more_properties (host_properties 14 (spans_from 62 c.args.names.now))) c.make_part-o.result.0 c.make_part-o.ensures.number c.make_part-o.ensures.heap c.add_properties.ensures
