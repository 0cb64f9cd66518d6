use Rattle.std.proofs.Common.{◌<◌, ap, arith, length, sym, subst}
use Rattle.abc_base.specs.declared.names.HostClass.TheVariants as hosts
use Rattle.abc_heap_store.specs.Heap.{Heap, slots_of_object}
use Rattle.abc_heap_store.specs.declared.records.What.TheVariants as whats
use Rattle.abc_link_names.specs.Linked.{layout_of}
use Rattle.abc_link_names.specs.declared.part.Part.TheVariants as parts
use Rattle.abc_objects.specs.Opening.{opening_object}
use Rattle.abc_objects.proofs.Opened.{class_slots}
use Rattle.abc_objects.proofs.Steps.{class_written, last_slots, starts_count}
use Rattle.abc_objects.proofs.opening.make_class_object.Goals as goal
use Rattle.std.specs.Prelude.{Some}

pub make_part-o-requires-clause-room : goal.make_part-o-requires-clause-room
make_part-o-requires-clause-room c = (c.requires.room.0, omega (arith, c.requires.room.1, class_slots c.args.l.now c.linked_law.ensures c.args.class))

pub set_slot-requires : goal.set_slot-requires
set_slot-requires c =
    let l = c.args.l.now in
    let ob = opening_object l (parts.HostClassObject c.args.class) (Some hosts.Class) (whats.HostClass c.args.class) in
    let n = ap length (last_slots c.args.store.now ob c.make_part-o.result.0 c.make_part-o.ensures.number) in
    subst (λ (y : Heap). 0 < length (slots_of_object y.objects c.make_part-o.result.0)) (sym c.make_part-o.ensures.heap)
    (omega (arith, n, class_slots l c.linked_law.ensures c.args.class, starts_count l (layout_of l (parts.HostClassObject c.args.class)).0))

pub returns : goal.returns
returns c = class_written c.args.l.now c.args.store.now _ _ c.args.class c.class_number.result c.make_part-o.result.0 c.make_part-o.ensures.number c.make_part-o.ensures.heap c.class_number.ensures c.set_slot.ensures
