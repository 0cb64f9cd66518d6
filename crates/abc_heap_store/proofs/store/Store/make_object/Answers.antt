use Rattle.std.proofs.Common.{◌∙◌, ap, refl, sym, arith, length, ◌++◌, ◌∷◌, []}
use Rattle.abc_heap_store.specs.View.{objects}
use Rattle.abc_heap_store.specs.Heap.{Heap}
use Rattle.abc_heap_store.specs.Changes.{bare_object}
use Rattle.abc_heap_store.proofs.Flat.{length_objects}
use Rattle.abc_heap_store.proofs.Calls.{sizes_are}
use Rattle.abc_heap_store.proofs.Makes.{made_heap}
use Rattle.abc_heap_store.proofs.store.Store.make_object.Goals as goal

pub add_object-o-requires-clause-room : goal.add_object-o-requires-clause-room
add_object-o-requires-clause-room g c =
    let s = sizes_are _ c.args.self.now c.self.inside.cells.items c.self.inside.heads.items c.self.view_is refl c.self.invariant.heads in
    omega (arith, s, c.requires.room, c.self.invariant.limits.objects)

pub fill_slots-requires-clause-room : goal.fill_slots-requires-clause-room
fill_slots-requires-clause-room g c =
    let s = sizes_are _ c.args.self.now c.self.inside.cells.items c.self.inside.heads.items c.self.view_is refl c.self.invariant.heads in
    omega (arith, s, c.requires.room, c.self.invariant.limits.cells)

pub invariant_of-self : goal.invariant_of-self
invariant_of-self g c =
    let s = sizes_are _ c.args.self.now c.self.inside.cells.items c.self.inside.heads.items c.self.view_is refl c.self.invariant.heads in
    let l = c.self.invariant.limits in
    record {
      heads = c.fill_slots.ensures.heads;
      limits = record {
        objects = c.add_object-o.ensures.sizes.1 ∙ l.objects;
        cells = c.fill_slots.ensures.sizes.1 ∙ l.cells;
        scopes = l.scopes;
        text = l.text;
        within = omega (arith, s, c.requires.room, c.fill_slots.ensures.sizes);
        small = l.small;
      };
      index = c.fill_slots.ensures.index _ _ _ _ c.self.invariant.index;
    }

pub returns : goal.returns
returns g c =
    let n = length_objects c.self.inside.cells.items 0 c.self.inside.heads.items in
    record {
      number = c.add_object-o.ensures.number ∙ (sym n ∙ ap (λ (h : Heap). length h.objects) c.self.view_is);
      heap = made_heap _ c.args.self.now _ _ c.add_object-o.result _ (bare_object c.args.layout c.args.delegate c.args.what) c.self.view_is (c.add_object-o.ensures.objects ∙ ap (λ w. objects c.self.inside.cells.items 0 c.self.inside.heads.items ++ bare_object c.args.layout c.args.delegate w ∷ []) c.stored.ensures.what) c.fill_slots.ensures.objects (c.add_object-o.ensures.number ∙ sym n);
    }
