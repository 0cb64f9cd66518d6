use Rattle.std.proofs.Common.{◌≡◌, ◌∙◌, ap, sym, subst}
use Rattle.abc_heap_store.specs.Heap.{Heap}
use Rattle.abc_heap_store.specs.Properties.{property_in_heap}
use Rattle.abc_heap_store.specs.Texts.{text_in, IsText}
use Rattle.abc_heap_store.proofs.Calls.{property_found, object_in}
use Rattle.abc_heap_store.proofs.store.Store.property.Goals as goal

pub returns-in-Some : goal.returns-in-Some
returns-in-Some c =
    let cells = c.self.inside.cells.items in
    let heads = c.self.inside.heads.items in
    let f = text_in c.self.inside.fixed c.self.inside.made.items c.self.inside.strings in
    let b = object_in cells heads c.args.self.now c.args.o.0 (ap (λ (h : Heap). h.objects) c.self.view_is) c.requires.inside in
    subst (λ (h : Heap). c.property_value.result ≡ property_in_heap h.strings h c.args.o.0 c.args.name) c.self.view_is (c.property_value.ensures ∙ property_found cells heads c.args.o.0 f (f c.args.name) _ _ c.self.invariant.heads b c.in-Some.ensures c.cell_at.ensures)

pub find-requires-clause-name : goal.find-requires-clause-name
find-requires-clause-name c = subst (λ (h : Heap). IsText h.strings h c.args.name) (sym c.self.view_is) c.requires.name

pub find-requires-clause-index : goal.find-requires-clause-index
find-requires-clause-index c = c.self.invariant.index
