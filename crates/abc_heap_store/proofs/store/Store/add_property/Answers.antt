use Rattle.std.proofs.Common.{◌∙◌, refl, sym, subst, arith}
use Rattle.abc_heap_values.specs.declared.cell.Held.TheVariants.{Property}
use Rattle.abc_heap_store.specs.Heap.{Heap}
use Rattle.abc_heap_store.specs.Texts.{IsText}
use Rattle.abc_heap_store.proofs.Indexed.{index_one}
use Rattle.abc_heap_store.proofs.Calls.{sizes_are}
use Rattle.abc_heap_store.proofs.store.Store.add_property.Goals as goal

pub add_property-requires-clause-room : goal.add_property-requires-clause-room
add_property-requires-clause-room c =
    let s = sizes_are _ c.args.self.now c.self.inside.cells.items c.self.inside.heads.items c.self.view_is refl c.self.invariant.heads in
    omega (arith, s, c.requires.room, c.self.invariant.limits.cells)

pub add-requires-clause-place : goal.add-requires-clause-place
add-requires-clause-place c =
    let s = sizes_are _ c.args.self.now c.self.inside.cells.items c.self.inside.heads.items c.self.view_is refl c.self.invariant.heads in
    omega (arith, s, c.requires.room, c.self.invariant.limits.cells, c.self.invariant.index.room, c.len-place.ensures.len)

pub add-requires-clause-small : goal.add-requires-clause-small
add-requires-clause-small c =
    let s = sizes_are _ c.args.self.now c.self.inside.cells.items c.self.inside.heads.items c.self.view_is refl c.self.invariant.heads in
    omega (arith, s, c.requires.room, c.self.invariant.limits.cells, c.self.invariant.limits.small, c.len-place.ensures.len)

pub invariant_of-self : goal.invariant_of-self
invariant_of-self c =
    let s = sizes_are _ c.args.self.now c.self.inside.cells.items c.self.inside.heads.items c.self.view_is refl c.self.invariant.heads in
    let l = c.self.invariant.limits in
    let sizes = c.add_property.ensures.sizes in
    record {
      heads = c.add_property.ensures.heads;
      limits = record {
        objects = sizes.heads_limit ∙ l.objects;
        cells = sizes.cells_limit ∙ l.cells;
        scopes = l.scopes;
        text = l.text;
        within = omega (arith, s, c.requires.room, sizes.cells);
        small = l.small;
      };
      index = index_one c.self.inside.fixed c.self.inside.made.items c.self.inside.strings c.self.inside.cells c.add_property.new.cells c.self.inside.buckets c.add.new.self c.args.o.0 c.len-place.result c.bucket_of_name-bucket.result (Property c.args.name c.args.v) c.args.name c.args.v c.self.invariant.index c.add_property.ensures.added refl sizes.cells_limit (subst (λ (h : Heap). IsText h.strings h c.args.name) (sym c.self.view_is) c.requires.name) c.len-place.ensures.len c.bucket_of_name-bucket.ensures.bucket c.add.ensures.added c.add.ensures.sizes;
    }

pub bucket_of_name-bucket-requires-clause-name : goal.bucket_of_name-bucket-requires-clause-name
bucket_of_name-bucket-requires-clause-name c = subst (λ (h : Heap). IsText h.strings h c.args.name) (sym c.self.view_is) c.requires.name
