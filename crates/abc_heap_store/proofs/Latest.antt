-- The property that an object was given last.
use Rattle.std.proofs.Common.{◌≡◌, ℕ, suc, ◌-◌, ◌<◌, List, Option, Some, None, length, true, sym, ap, ◌∙◌, subst, arith}
use Rattle.std.specs.Prelude.{slice_get}
use Rattle.std.proofs.lemmas.List.{length-map}
use Rattle.std.proofs.lemmas.Slice.Eq.{bytes_eq-Decides}
use Rattle.abc_heap_values.specs.declared.cell.Cell.{Cell}
use Rattle.abc_heap_values.specs.declared.values.Span.{Span}
use Rattle.abc_heap_values.specs.declared.values.Value.{Value}
use Rattle.abc_heap_values.specs.declared.cell.Lane.TheVariants.{Properties}
use Rattle.abc_heap_values.specs.Lanes.{property_in}
use Rattle.abc_heap_values.specs.Links.{IsCellAt, link_of, links}
use Rattle.abc_heap_values.proofs.Walks.{link_at}
use Rattle.abc_heap_store.specs.declared.heads.Head.{Head}
use Rattle.abc_heap_store.specs.Heap.{properties_of}
use Rattle.abc_heap_store.specs.Properties.{is_property_named, place_below, the_name}
use Rattle.abc_heap_store.specs.Spots.{IsSpot}
use Rattle.abc_heap_store.specs.View.{AreObjectHeads, objects}
use Rattle.abc_heap_store.proofs.Calls.{properties_counted}
use Rattle.abc_heap_store.proofs.Flat.{property_read}
use Rattle.abc_heap_store.proofs.Lasts.{chosen}

-- its place is one of the cells
pub last_inside : (cells : List Cell) (heads : List Head) (o : ℕ) (h : Head) → AreObjectHeads (links cells) heads → slice_get heads o ≡ Some h → 0 < h.properties.count → h.properties.last < length cells
last_inside cells heads o h a at some = let w = ((a.heads o h at).properties.last some).inside in omega (arith, w, length-map cells link_of)

-- the property of just this name has its text
same_named : (f : Span → List ℕ) (name : Span) (p : Option (Span × Value)) → the_name p ≡ Some name → is_property_named f (f name) (Some p) ≡ true
same_named f name None e = absurd cc
same_named f name (Some p) e = let q : p.0 ≡ name = cc in (bytes_eq-Decides (f p.0) (f name)).1 (ap f q)

-- where it has the name, it is where the search ends
pub last_spot : (cells : List Cell) (heads : List Head) (o : ℕ) (h : Head) (c : Cell) (name : Span) → AreObjectHeads (links cells) heads → o < length heads → slice_get heads o ≡ Some h → 0 < h.properties.count → slice_get cells h.properties.last ≡ Some c → the_name (property_in c.held) ≡ Some name
    → (f : Span → List ℕ) → IsSpot f (f name) cells heads o (record { place = h.properties.last; position = c.position })
last_spot cells heads o h c name a inside at some e named f =
    let ps = properties_of (objects cells 0 heads) o in
    let k = h.properties.count - 1 in
    let here : IsCellAt (links cells) h.properties.last o Properties k = (a.heads o h at).properties.last some in
    let position : c.position ≡ k = (here.is (link_of c) (link_at cells h.properties.last c e)).2 in
    let there : IsCellAt (links cells) h.properties.last o Properties c.position = subst (λ (j : ℕ). IsCellAt (links cells) h.properties.last o Properties j) (sym position) here in
    let fits : is_property_named f (f name) (slice_get ps c.position) ≡ true = ap (is_property_named f (f name)) (property_read cells heads h.properties.last o c.position c a inside there e) ∙ same_named f name (property_in c.held) named in
    let all = properties_counted cells heads o h a at in
    let long : length ps ≡ suc c.position = omega (arith, all, position, some) in
    record { at = there; is = ap (place_below f (f name) ps) long ∙ chosen (is_property_named f (f name) (slice_get ps c.position)) (Some c.position) (place_below f (f name) ps c.position) fits }
