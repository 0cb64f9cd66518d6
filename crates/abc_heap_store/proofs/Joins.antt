-- Runs of empty positions are joined: the objects stay.
use Rattle.std.proofs.Common.{◌≡◌, ℕ, ◌<◌, List, Some, None, length, refl, sym, ap, ◌∙◌, subst, arith}
use Rattle.std.specs.Prelude.{slice_get}
use Rattle.abc_heap_values.specs.Filling.{Filling}
use Rattle.abc_heap_values.specs.declared.cell.Cell.{Cell}
use Rattle.abc_heap_values.specs.declared.cell.Held.TheVariants.{Deleted}
use Rattle.abc_heap_values.specs.declared.cell.Lane.TheVariants.{Properties}
use Rattle.abc_heap_values.specs.Lanes.{lane_of, properties, property_in}
use Rattle.abc_heap_values.specs.Links.{links, IsCellAt, held_at}
use Rattle.abc_heap_values.proofs.Parts.{slice_get_some, set_same}
use Rattle.abc_heap_values.proofs.Owned.{links_held}
use Rattle.abc_heap_values.proofs.Walks.{link_at}
use Rattle.abc_heap_store.specs.declared.heads.Head.{Head}
use Rattle.abc_heap_store.specs.declared.records.ScopeNode.{ScopeNode}
use Rattle.abc_heap_store.specs.declared.records.Limits.{Limits}
use Rattle.abc_heap_store.specs.declared.buckets.Buckets.{Buckets}
use Rattle.abc_heap_store.specs.Buckets.{bucket_of}
use Rattle.abc_heap_store.specs.Texts.{text_in}
use Rattle.abc_heap_store.specs.Gaps.{empty_in, AreEmpty, AreGaps}
use Rattle.abc_heap_store.specs.Heap.{properties_of}
use Rattle.abc_heap_store.specs.Changes.{with_property}
use Rattle.abc_heap_store.specs.View.{objects, AreObjectHeads, IsStored}
use Rattle.abc_heap_store.specs.Spots.{IsSame}
use Rattle.abc_heap_store.proofs.Calls.{change_none}
use Rattle.abc_heap_store.proofs.Flat.{properties_are, property_read}
use Rattle.abc_heap_store.proofs.Gaps.{gaps_held, stays_empty}
use Rattle.abc_heap_store.proofs.Indexed.{index_held, keeps_on, same_some}
use Rattle.abc_heap_store.proofs.Stands.{nameless}
use Rattle.abc_heap_store.proofs.Writes.{cell_in, inside, length_held, property_written}

pub same_self : (hs : List Head) (cs : Filling Cell) → AreObjectHeads (links cs.items) hs → AreGaps cs.items → IsSame hs cs cs
same_self hs cs a g = record { objects = refl; heads = a; gaps = g; index = λ fixed made strings b x. x; cells = refl; limit = refl }

pub same_then : (hs : List Head) (a b c : Filling Cell) → IsSame hs a b → IsSame hs b c → IsSame hs a c
same_then hs a b c f g = record {
  objects = g.objects ∙ f.objects;
  heads = g.heads;
  gaps = g.gaps;
  index = keeps_on a b c f.index g.index;
  cells = g.cells ∙ f.cells;
  limit = g.limit ∙ f.limit;
}

-- an emptied cell tells of more positions that are empty
pub joined : (hs : List Head) (cs new : Filling Cell) (p o k n : ℕ) → AreObjectHeads (links cs.items) hs → AreGaps cs.items → o < length hs → IsCellAt (links cs.items) p o Properties k → 0 < n → AreEmpty (properties_of (objects cs.items 0 hs) o) k n → new ≡ record { items = held_at cs.items p (Deleted n); limit = cs.limit } → IsSame hs cs new
joined hs cs new p o k n a g b at some empty is =
    let cells = cs.items in
    let obs = objects cells 0 hs in
    let i = inside cells p o Properties k at in
    let w = slice_get_some cells p i in
    let c = w.0 in
    let own = cell_in cells p o Properties k c at w.1 in
    let place = (at.is _ (link_at cells p c w.1)).2 in
    let lane : lane_of (Deleted n) ≡ lane_of c.held = sym own.1 in
    let here : slice_get (properties_of obs o) k ≡ Some None = empty k (omega arith) (omega arith) in
    let none : property_in c.held ≡ None = same_some (property_in c.held) None (sym (property_read cells hs p o k c a b at w.1) ∙ here) in
    let held : Filling Cell = record { items = held_at cells p (Deleted n); limit = cs.limit } in
    let gaps : AreGaps held.items = gaps_held cells p c (Deleted n) g w.1 lane (λ q. refl) (λ m q. let same : n ≡ m = ap empty_in q in (
      omega (arith, same),
      λ j d t.
          let was : slice_get (properties o cells) j ≡ Some None = ap (λ ps. slice_get ps j) (sym (properties_are cells o hs b)) ∙ empty j (omega (arith, place)) (omega (arith, place, same)) in
          subst (λ r. slice_get (properties r held.items) j ≡ Some None) (sym own.0) (stays_empty cells p o j c (Deleted n) w.1 lane (λ q. refl) was),
    )) in
    let done : IsSame hs cs held = record {
      objects = property_written cells p o k (Deleted n) hs a b at i refl ∙ change_none (with_property k None) o obs (λ ob e. ap (λ ps. record ob { properties = ps }) (set_same ob.properties k None (ap (λ ps. slice_get ps k) (sym e) ∙ here)));
      heads = subst (λ xs. AreObjectHeads xs hs) (sym (links_held cells p c (Deleted n) w.1 lane)) a;
      gaps = gaps;
      index = λ fixed made strings x s. index_held fixed made strings cs held x p c (Deleted n) s w.1 refl (nameless fixed made strings (Deleted n) refl) (ap (bucket_of (length x.lasts.items) (text_in fixed made strings) c.owner) (sym none)) gaps;
      cells = length_held cells p (Deleted n);
      limit = refl;
    } in
    subst (IsSame hs cs) (sym is) done

-- the flat lists stand for the same heap
pub joined_stored : (hs : Filling Head) (cs new : Filling Cell) (ss : Filling ScopeNode) (fixed : List ℕ) (ts : Filling ℕ) (strings : List (List ℕ)) (b : Buckets) (m : Limits) → IsStored hs cs ss fixed ts strings b m → IsSame hs.items cs new → IsStored hs new ss fixed ts strings b m
joined_stored hs cs new ss fixed ts strings b m s e =
    let l = s.limits in
    record {
      heads = e.heads;
      limits = record { objects = l.objects; cells = e.limit ∙ l.cells; scopes = l.scopes; text = l.text; within = omega (arith, l.within, e.cells); small = l.small };
      index = e.index fixed ts.items strings b s.index;
    }
