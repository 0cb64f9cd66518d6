use Rattle.std.proofs.Common.{◌<◌, ap, sym, subst, arith, length, map}
use Rattle.std.proofs.lemmas.List.{length-map}
use Rattle.abc_link_names.specs.Slots.{slots_of}
use Rattle.abc_link_names.specs.declared.part.LayoutId.{LayoutId}
use Rattle.abc_link_names.specs.declared.types.SlotInfo.{SlotInfo}
use Rattle.abc_objects.specs.Starts.{start_value}
use Rattle.abc_objects.proofs.Made.{part_found}
use Rattle.abc_objects.proofs.Steps.{made_opened}
use Rattle.abc_objects.proofs.Ways.{starts_are}
use Rattle.abc_objects.proofs.opening.make_part.Goals as goal

pub starts_of-starts-requires-clause-layout : goal.starts_of-starts-requires-clause-layout
starts_of-starts-requires-clause-layout c =
    let l = c.args.l.now in
    subst (λ (x : LayoutId). x.0 < length l.parts) (sym c.layout_of-layout.ensures) (part_found l c.linked_law.ensures c.args.part c.requires.part).0

pub make_object-requires : goal.make_object-requires
make_object-requires c =
    let l = c.args.l.now in
    let s = c.starts_of-starts.result in
    let n = length-map s.slots.now (λ (i : SlotInfo). start_value s.pool.now i.start) in
    record { room = (c.requires.room.0, omega (arith, c.requires.room.1, n, ap length c.starts_of-starts.ensures.slots, ap (λ (x : LayoutId). length (slots_of l x.0)) c.layout_of-layout.ensures)) }

pub returns-clause-heap : goal.returns-clause-heap
returns-clause-heap c =
    let l = c.args.l.now in
    let s = c.starts_of-starts.result in
    let y = c.layout_of-layout.result in
    made_opened l c.args.store.now _ c.args.part c.args.parent c.args.what (map (λ (i : SlotInfo). start_value s.pool.now i.start) s.slots.now) y c.prototype_of.result c.make_object.ensures.heap
    (starts_are s.pool.now l.file.strings s.slots.now (slots_of l y.0) c.starts_of-starts.ensures.pool c.starts_of-starts.ensures.slots)
    c.layout_of-layout.ensures c.prototype_of.ensures
