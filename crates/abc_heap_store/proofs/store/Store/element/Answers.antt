use Rattle.std.proofs.Common.{◌≡◌, ◌∙◌, ap, sym, subst, length, ◌<◌, Some}
use Rattle.std.specs.Prelude.{slice_get}
use Rattle.abc_heap_store.specs.Heap.{Heap, elements_of}
use Rattle.abc_heap_store.specs.View.{objects}
use Rattle.abc_heap_store.proofs.Flat.{elements_past, element_read}
use Rattle.abc_heap_store.proofs.store.Store.element.Goals as goal

pub returns : goal.returns
returns c =
    let cells = c.self.inside.cells.items in
    let heads = c.self.inside.heads.items in
    let slot : c.args.k < length (elements_of (objects cells 0 heads) c.args.o.0) = subst (λ (h : Heap). c.args.k < length (elements_of h.objects c.args.o.0)) (sym c.self.view_is) c.requires in
    let e = element_read cells heads c.element_place-place.result c.args.o.0 c.args.k c.cell_at.result c.self.invariant.heads (elements_past cells 0 c.args.o.0 c.args.k heads slot) c.element_place-place.ensures c.cell_at.ensures in
    subst (λ (h : Heap). slice_get (elements_of h.objects c.args.o.0) c.args.k ≡ Some c.value_of.result) c.self.view_is (e ∙ ap Some (sym c.value_of.ensures))
