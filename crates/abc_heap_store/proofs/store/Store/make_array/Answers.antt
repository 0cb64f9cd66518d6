use Rattle.std.proofs.Common.{◌∙◌, ap, refl, sym, arith, length, ◌++◌, ◌∷◌, []}
use Rattle.abc_heap_store.specs.Heap.{Heap}
use Rattle.abc_heap_store.specs.Changes.{bare_object}
use Rattle.abc_heap_store.specs.View.{objects}
use Rattle.abc_heap_store.proofs.Flat.{length_objects}
use Rattle.abc_heap_store.proofs.Calls.{sizes_are}
use Rattle.abc_heap_store.proofs.Makes.{object_last}
use Rattle.abc_heap_store.proofs.store.Store.make_array.Goals as goal

pub add_object-o-requires-clause-room : goal.add_object-o-requires-clause-room
add_object-o-requires-clause-room c =
    let s = sizes_are _ c.args.self.now c.self.inside.cells.items c.self.inside.heads.items c.self.view_is refl c.self.invariant.heads in
    omega (arith, s, c.requires, c.self.invariant.limits.objects)

pub invariant_of-self : goal.invariant_of-self
invariant_of-self c =
    let l = c.self.invariant.limits in
    record {
      heads = c.add_object-o.ensures.heads;
      limits = record {
        objects = c.add_object-o.ensures.sizes.1 ∙ l.objects;
        cells = l.cells;
        scopes = l.scopes;
        text = l.text;
        within = l.within;
        small = l.small;
      };
      index = c.self.invariant.index;
    }

pub returns : goal.returns
returns c =
    let n = length_objects c.self.inside.cells.items 0 c.self.inside.heads.items in
    record {
      number = c.add_object-o.ensures.number ∙ (sym n ∙ ap (λ (h : Heap). length h.objects) c.self.view_is);
      heap = object_last _ c.args.self.now _ _ c.self.view_is (c.add_object-o.ensures.objects ∙ ap (λ w. objects c.self.inside.cells.items 0 c.self.inside.heads.items ++ bare_object c.args.layout c.args.delegate w ∷ []) c.stored.ensures.what);
    }
