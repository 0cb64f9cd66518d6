use Rattle.std.proofs.Common.{◌≡◌, ◌∙◌, ap, sym, subst, length, ◌<◌}
use Rattle.abc_heap_values.specs.Filling.{Filling}
use Rattle.abc_heap_values.specs.declared.cell.Cell.{Cell}
use Rattle.abc_heap_store.specs.Heap.{Heap, slots_of_object}
use Rattle.abc_heap_store.specs.Changes.{with_slot, change}
use Rattle.abc_heap_store.specs.View.{objects}
use Rattle.abc_heap_store.proofs.Flat.{slots_past}
use Rattle.abc_heap_store.proofs.Stands.{hold_slot}
use Rattle.abc_heap_store.proofs.Writes.{slot_written, changed, inside}
use Rattle.abc_heap_store.proofs.store.Store.set_slot.Goals as goal

pub invariant_of-self : goal.invariant_of-self
invariant_of-self c = hold_slot c.self.inside.heads c.self.inside.cells _ c.self.inside.scopes c.self.inside.fixed c.self.inside.made c.self.inside.strings c.self.inside.buckets c.self.inside.limits c.slot_place-place.result c.args.o.0 c.args.k c.args.v c.self.invariant c.slot_place-place.ensures c.hold.ensures

pub returns : goal.returns
returns c =
    let cells = c.self.inside.cells.items in
    let heads = c.self.inside.heads.items in
    let slot : c.args.k < length (slots_of_object (objects cells 0 heads) c.args.o.0) = subst (λ (h : Heap). c.args.k < length (slots_of_object h.objects c.args.o.0)) (sym c.self.view_is) c.requires in
    let e : objects c.hold.new.cells.items 0 heads ≡ change (with_slot c.args.k c.args.v) c.args.o.0 (objects cells 0 heads) =
    ap (λ (f : Filling Cell). objects f.items 0 heads) c.hold.ensures
    ∙ slot_written cells c.slot_place-place.result c.args.o.0 c.args.k c.args.v heads c.self.invariant.heads (slots_past cells 0 c.args.o.0 c.args.k heads slot) c.slot_place-place.ensures (inside _ _ _ _ _ c.slot_place-place.ensures) in
    changed c.args.self.now _ _ _ _ c.self.view_is e
