use Rattle.std.proofs.Common.{◌≡◌, ◌∙◌, ap, sym, subst, length, ◌<◌, Some}
use Rattle.std.specs.Prelude.{slice_get}
use Rattle.abc_heap_store.specs.Heap.{Heap, slots_of_object}
use Rattle.abc_heap_store.specs.View.{objects}
use Rattle.abc_heap_store.proofs.Flat.{slots_past, slot_read}
use Rattle.abc_heap_store.proofs.store.Store.slot.Goals as goal

pub returns : goal.returns
returns c =
    let cells = c.self.inside.cells.items in
    let heads = c.self.inside.heads.items in
    let slot : c.args.k < length (slots_of_object (objects cells 0 heads) c.args.o.0) = subst (λ (h : Heap). c.args.k < length (slots_of_object h.objects c.args.o.0)) (sym c.self.view_is) c.requires in
    let e = slot_read cells heads c.slot_place-place.result c.args.o.0 c.args.k c.cell_at.result c.self.invariant.heads (slots_past cells 0 c.args.o.0 c.args.k heads slot) c.slot_place-place.ensures c.cell_at.ensures in
    subst (λ (h : Heap). slice_get (slots_of_object h.objects c.args.o.0) c.args.k ≡ Some c.value_of.result) c.self.view_is (e ∙ ap Some (sym c.value_of.ensures))
