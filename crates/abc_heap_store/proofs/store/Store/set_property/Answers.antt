use Rattle.std.proofs.Common.{◌≡◌, ◌∙◌, ap, refl, sym, subst, None, Some, arith}
use Rattle.abc_heap_values.specs.Filling.{Filling}
use Rattle.abc_heap_values.specs.declared.cell.Cell.{Cell}
use Rattle.abc_heap_store.specs.Heap.{Heap}
use Rattle.abc_heap_store.specs.Texts.{text_in, text_of, IsText}
use Rattle.abc_heap_store.specs.Properties.{with_put, place_of_property, cells_to_put}
use Rattle.abc_heap_store.specs.View.{objects}
use Rattle.abc_heap_store.proofs.Calls.{put_over, put_new, object_in, changed_by, used_is}
use Rattle.abc_heap_store.proofs.Stands.{hold_put}
use Rattle.abc_heap_store.proofs.store.Store.set_property.Goals as goal

pub invariant_of-self : goal.invariant_of-self
invariant_of-self c =
    let b = object_in c.self.inside.cells.items c.self.inside.heads.items c.args.self.now c.args.o.0 (ap (λ (h : Heap). h.objects) c.self.view_is) c.requires.inside in
    hold_put c.self.inside.heads c.self.inside.cells _ c.self.inside.scopes c.self.inside.fixed c.self.inside.made c.self.inside.strings c.self.inside.buckets c.self.inside.limits c.args.o.0 (text_in c.self.inside.fixed c.self.inside.made.items c.self.inside.strings c.args.name) c.in-Some.spot c.cell_at-held.result c.hold_value.ensures.now c.args.v c.self.invariant b c.in-Some.ensures c.cell_at-held.ensures c.hold_value.ensures.lane c.hold_value.ensures.value c.hold_value.ensures.cells

pub returns-in-Some : goal.returns-in-Some
returns-in-Some c =
    let cells = c.self.inside.cells.items in
    let heads = c.self.inside.heads.items in
    let f = text_in c.self.inside.fixed c.self.inside.made.items c.self.inside.strings in
    let b = object_in cells heads c.args.self.now c.args.o.0 (ap (λ (h : Heap). h.objects) c.self.view_is) c.requires.inside in
    let there : place_of_property c.args.self.now.strings c.args.self.now c.args.o.0 c.args.name ≡ Some c.in-Some.spot.position = subst (λ (h : Heap). place_of_property h.strings h c.args.o.0 c.args.name ≡ Some c.in-Some.spot.position) c.self.view_is c.in-Some.ensures.is in
    let used = used_is _ c.args.self.now cells heads c.self.view_is refl c.self.invariant.heads in (
      omega (arith, used, ap cells_to_put there, c.self.invariant.limits.within, ap (λ (h : Heap). h.limits.cells) c.self.view_is),
      changed_by _ c.args.self.now _ (λ h. with_put (text_of h.strings h) (text_of h.strings h c.args.name) c.args.name c.args.v) c.args.o.0 c.self.view_is
          (ap (λ (x : Filling Cell). objects x.items 0 heads) c.hold_value.ensures.cells ∙ put_over cells heads c.args.o.0 f (f c.args.name) c.args.name c.args.v c.in-Some.spot c.cell_at-held.result c.hold_value.ensures.now c.self.invariant.heads b c.in-Some.ensures c.cell_at-held.ensures c.hold_value.ensures.lane c.hold_value.ensures.value),
    )

pub returns-then-len-self : goal.returns-then-len-self
returns-then-len-self c =
    let none : place_of_property c.args.self.now.strings c.args.self.now c.args.o.0 c.args.name ≡ None = subst (λ (h : Heap). place_of_property h.strings h c.args.o.0 c.args.name ≡ None) c.self.view_is c.in-None.ensures in
    let used = used_is _ c.args.self.now c.self.inside.cells.items c.self.inside.heads.items c.self.view_is refl c.self.invariant.heads in
    (refl, omega (arith, used, ap cells_to_put none, c.len.ensures.len, c.len-in-None.ensures.len, ap (λ (h : Heap). h.limits.cells) c.self.view_is), refl)

pub add_property-requires-clause-room : goal.add_property-requires-clause-room
add_property-requires-clause-room c =
    let used = used_is _ c.args.self.now c.self.inside.cells.items c.self.inside.heads.items c.self.view_is refl c.self.invariant.heads in
    omega (arith, used, c.self.invariant.limits.within, c.len.ensures.len, c.len-in-None.ensures.len, ap (λ (h : Heap). h.limits.cells) c.self.view_is)

pub returns-else-len-self : goal.returns-else-len-self
returns-else-len-self c =
    let f = text_of c.args.self.now.strings c.args.self.now in
    let none : place_of_property c.args.self.now.strings c.args.self.now c.args.o.0 c.args.name ≡ None = subst (λ (h : Heap). place_of_property h.strings h c.args.o.0 c.args.name ≡ None) c.self.view_is c.in-None.ensures in
    let used = used_is _ c.args.self.now c.self.inside.cells.items c.self.inside.heads.items c.self.view_is refl c.self.invariant.heads in (
      omega (arith, used, ap cells_to_put none, c.self.invariant.limits.within, c.len.ensures.len, c.len-in-None.ensures.len, ap (λ (h : Heap). h.limits.cells) c.self.view_is),
      c.add_property.ensures ∙ ap (λ obs. record c.args.self.now { objects = obs }) (put_new c.args.self.now.objects c.args.o.0 f (f c.args.name) c.args.name c.args.v none),
    )

pub find-requires-clause-name : goal.find-requires-clause-name
find-requires-clause-name c = subst (λ (h : Heap). IsText h.strings h c.args.name) (sym c.self.view_is) c.requires.name

pub find-requires-clause-index : goal.find-requires-clause-index
find-requires-clause-index c = c.self.invariant.index
