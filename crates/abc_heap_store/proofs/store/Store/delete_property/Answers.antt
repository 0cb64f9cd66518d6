use Rattle.std.proofs.Common.{◌≡◌, ◌∙◌, ap, refl, sym, subst, length, is_some, None, Some}
use Rattle.abc_heap_values.specs.Filling.{Filling}
use Rattle.abc_heap_values.specs.declared.cell.Cell.{Cell}
use Rattle.abc_heap_values.specs.declared.cell.Held.TheVariants.{Deleted}
use Rattle.abc_heap_store.specs.Buckets.{buckets_of}
use Rattle.abc_heap_store.specs.Heap.{Heap}
use Rattle.abc_heap_store.specs.Texts.{text_in, text_of, IsText}
use Rattle.abc_heap_store.specs.Properties.{with_delete, place_of_property}
use Rattle.abc_heap_store.specs.View.{objects}
use Rattle.abc_heap_store.proofs.Calls.{deleted, not_deleted, object_in, changed_by}
use Rattle.abc_heap_store.proofs.Gaps.{gone_inside}
use Rattle.abc_heap_store.proofs.Joins.{joined_stored}
use Rattle.abc_heap_store.proofs.Stands.{hold_gone, spot_bucket}
use Rattle.abc_heap_store.proofs.store.Store.delete_property.Goals as goal

pub invariant_of-self : goal.invariant_of-self
invariant_of-self c =
    let inside = c.self.inside in
    let b = object_in inside.cells.items inside.heads.items c.args.self.now c.args.o.0 (ap (λ (h : Heap). h.objects) c.self.view_is) c.requires.inside in
    let gone = hold_gone inside.heads inside.cells c.hold.new.cells inside.scopes inside.fixed inside.made inside.strings inside.buckets c.remove.new.self inside.limits c.args.o.0 c.bucket_of_name-bucket.result (text_in inside.fixed inside.made.items inside.strings c.args.name) c.in-Some.spot c.self.invariant b c.in-Some.ensures c.bucket_of_name-bucket.ensures.bucket c.hold.ensures c.remove.ensures.removed c.remove.ensures.sizes in
    joined_stored inside.heads c.hold.new.cells c.join_around.new.cells inside.scopes inside.fixed inside.made inside.strings c.remove.new.self inside.limits gone c.join_around.ensures

pub join_around-requires : goal.join_around-requires
join_around-requires c =
    let inside = c.self.inside in
    let b = object_in inside.cells.items inside.heads.items c.args.self.now c.args.o.0 (ap (λ (h : Heap). h.objects) c.self.view_is) c.requires.inside in
    let gone = hold_gone inside.heads inside.cells c.hold.new.cells inside.scopes inside.fixed inside.made inside.strings inside.buckets c.remove.new.self inside.limits c.args.o.0 c.bucket_of_name-bucket.result (text_in inside.fixed inside.made.items inside.strings c.args.name) c.in-Some.spot c.self.invariant b c.in-Some.ensures c.bucket_of_name-bucket.ensures.bucket c.hold.ensures c.remove.ensures.removed c.remove.ensures.sizes in
    record {
      heads = gone.heads;
      gaps = gone.index.gaps;
      inside = b;
      property = gone_inside inside.heads.items inside.cells c.hold.new.cells c.in-Some.spot.place c.args.o.0 c.in-Some.spot.position (Deleted 1) gone.heads b c.in-Some.ensures.at refl c.hold.ensures;
    }

pub remove-requires-clause-place : goal.remove-requires-clause-place
remove-requires-clause-place c =
    let inside = c.self.inside in
    let f = text_in inside.fixed inside.made.items inside.strings in
    let b = object_in inside.cells.items inside.heads.items c.args.self.now c.args.o.0 (ap (λ (h : Heap). h.objects) c.self.view_is) c.requires.inside in
    (buckets_of (length inside.buckets.lasts.items) f inside.cells.items, c.self.invariant.index.buckets, spot_bucket inside.heads.items inside.cells.items c.args.o.0 (length inside.buckets.lasts.items) f (f c.args.name) c.in-Some.spot c.self.invariant.heads b c.in-Some.ensures ∙ ap Some (sym c.bucket_of_name-bucket.ensures.bucket))

pub returns-in-Some-clause-heap : goal.returns-in-Some-clause-heap
returns-in-Some-clause-heap c =
    let cells = c.self.inside.cells.items in
    let heads = c.self.inside.heads.items in
    let f = text_in c.self.inside.fixed c.self.inside.made.items c.self.inside.strings in
    let b = object_in cells heads c.args.self.now c.args.o.0 (ap (λ (h : Heap). h.objects) c.self.view_is) c.requires.inside in
    changed_by _ c.args.self.now _ (λ h. with_delete (text_of h.strings h) (text_of h.strings h c.args.name)) c.args.o.0 c.self.view_is
    (c.join_around.ensures.objects ∙ (ap (λ (x : Filling Cell). objects x.items 0 heads) c.hold.ensures ∙ deleted cells heads c.args.o.0 f (f c.args.name) c.in-Some.spot (Deleted 1) c.self.invariant.heads b c.in-Some.ensures refl refl))

pub returns-in-None-clause-heap : goal.returns-in-None-clause-heap
returns-in-None-clause-heap c =
    let f = text_of c.args.self.now.strings c.args.self.now in
    let none : place_of_property c.args.self.now.strings c.args.self.now c.args.o.0 c.args.name ≡ None = subst (λ (h : Heap). place_of_property h.strings h c.args.o.0 c.args.name ≡ None) c.self.view_is c.in-None.ensures in
    sym (ap (λ obs. record c.args.self.now { objects = obs }) (not_deleted c.args.self.now.objects c.args.o.0 f (f c.args.name) none))

pub find-requires-clause-name : goal.find-requires-clause-name
find-requires-clause-name c = subst (λ (h : Heap). IsText h.strings h c.args.name) (sym c.self.view_is) c.requires.name

pub bucket_of_name-bucket-requires-clause-name : goal.bucket_of_name-bucket-requires-clause-name
bucket_of_name-bucket-requires-clause-name c = subst (λ (h : Heap). IsText h.strings h c.args.name) (sym c.self.view_is) c.requires.name

pub find-requires-clause-index : goal.find-requires-clause-index
find-requires-clause-index c = c.self.invariant.index

pub returns-in-Some-clause-was : goal.returns-in-Some-clause-was
returns-in-Some-clause-was c = sym (ap is_some (subst (λ (h : Heap). place_of_property h.strings h c.args.o.0 c.args.name ≡ Some c.in-Some.spot.position) c.self.view_is c.in-Some.ensures.is))

pub returns-in-None-clause-was : goal.returns-in-None-clause-was
returns-in-None-clause-was c = sym (ap is_some (subst (λ (h : Heap). place_of_property h.strings h c.args.o.0 c.args.name ≡ None) c.self.view_is c.in-None.ensures))
