-- What the calls promise, from what the flat lists do.
use Rattle.std.proofs.Common.{◌≡◌, ℕ, zero, suc, ◌+◌, ◌-◌, ◌<◌, List, [], ◌∷◌, Option, Some, None, length, refl, sym, ap, ◌∙◌, subst, arith}
use Rattle.std.specs.Prelude.{slice_get}
use Rattle.abc_heap_values.specs.declared.cell.Cell.{Cell}
use Rattle.abc_heap_values.specs.declared.cell.Held.{Held}
use Rattle.abc_heap_values.specs.declared.values.Span.{Span}
use Rattle.abc_heap_values.specs.declared.values.Value.{Value}
use Rattle.std.proofs.lemmas.List.{length-map}
use Rattle.std.proofs.lemmas.Option.{slice_get_within, slice_get_past}
use Rattle.abc_heap_values.proofs.Owned.{count_owned}
use Rattle.abc_heap_values.specs.declared.cell.Lane.TheVariants.{Properties, Elements}
use Rattle.abc_heap_values.specs.Lanes.{lane_of, cells_of_lane, property_in, value_of_held}
use Rattle.abc_heap_values.specs.Links.{links, IsCellAt, held_at}
use Rattle.abc_heap_store.specs.declared.heads.Head.{Head}
use Rattle.abc_heap_store.specs.declared.search.Spot.{Spot}
use Rattle.abc_heap_store.specs.What.{elements_in}
use Rattle.abc_heap_store.specs.Heap.{Object, object_at, Heap, properties_of, elements_of, cells_used, all_cells, ledger as the_ledger}
use Rattle.abc_heap_store.specs.Changes.{change, with_property, with_object, with_new_property}
use Rattle.abc_heap_store.specs.Properties.{with_delete, with_put, at_position, place_named, found_property, present_property, the_value, with_value, put_at, delete_at}
use Rattle.abc_heap_store.specs.declared.records.Limits.{Limits}
use Rattle.abc_heap_store.specs.View.{object_viewed, objects, AreObjectHeads}
use Rattle.abc_heap_store.specs.Spots.{IsSpot}
use Rattle.abc_heap_store.proofs.Flat.{object_is, zero_plus, property_read, length_objects, properties_are, elements_are}
use Rattle.abc_heap_store.proofs.Ledger.{ledger}
use Rattle.abc_heap_store.proofs.Writes.{property_written, inside}

pub change_same : (f g : Object → Object) (o : ℕ) (obs : List Object) → ((ob : Object) → properties_of obs o ≡ ob.properties → f ob ≡ g ob) → change f o obs ≡ change g o obs
change_same f g o [] h = refl
change_same f g zero (ob ∷ obs) h = ap (λ x. x ∷ obs) (h ob refl)
change_same f g (suc o) (ob ∷ obs) h = ap (λ xs. ob ∷ xs) (change_same f g o obs h)

pub change_none : (f : Object → Object) (o : ℕ) (obs : List Object) → ((ob : Object) → properties_of obs o ≡ ob.properties → f ob ≡ ob) → change f o obs ≡ obs
change_none f o [] h = refl
change_none f zero (ob ∷ obs) h = ap (λ x. x ∷ obs) (h ob refl)
change_none f (suc o) (ob ∷ obs) h = ap (λ xs. ob ∷ xs) (change_none f o obs h)

-- a read of a property that was found
pub property_found : (cells : List Cell) (hs : List Head) (o : ℕ) (f : Span → List ℕ) (t : List ℕ) (s : Spot) (c : Cell) → AreObjectHeads (links cells) hs → o < length hs → IsSpot f t cells hs o s → slice_get cells s.place ≡ Some c → the_value (property_in c.held) ≡ found_property (properties_of (objects cells 0 hs) o) (place_named f t (properties_of (objects cells 0 hs) o))
property_found cells hs o f t s c a b q e =
    let ps = properties_of (objects cells 0 hs) o in
    let r = property_read cells hs s.place o s.position c a b q.at e in
    sym (ap (found_property ps) q.is ∙ ap (λ x. the_value (present_property x)) r)

-- a delete
pub deleted : (cells : List Cell) (hs : List Head) (o : ℕ) (f : Span → List ℕ) (t : List ℕ) (s : Spot) (h : Held) → AreObjectHeads (links cells) hs → o < length hs → IsSpot f t cells hs o s → lane_of h ≡ Properties → property_in h ≡ None → objects (held_at cells s.place h) 0 hs ≡ change (with_delete f t) o (objects cells 0 hs)
deleted cells hs o f t s h a b q lane none =
    property_written cells s.place o s.position h hs a b q.at (inside cells s.place o Properties s.position q.at) lane
    ∙ change_same (with_property s.position (property_in h)) (with_delete f t) o (objects cells 0 hs) (λ ob e.
    let k : place_named f t ob.properties ≡ Some s.position = ap (place_named f t) (sym e) ∙ q.is in
    ap (λ p. with_property s.position p ob) none ∙ ap (λ p. record ob { properties = delete_at ob.properties p }) (sym k))

pub not_deleted : (obs : List Object) (o : ℕ) (f : Span → List ℕ) (t : List ℕ) → place_named f t (properties_of obs o) ≡ None → change (with_delete f t) o obs ≡ obs
not_deleted obs o f t n = change_none (with_delete f t) o obs (λ ob e. ap (λ p. record ob { properties = delete_at ob.properties p }) (ap (place_named f t) (sym e) ∙ n))

-- a write to a property that is there
pub put_over : (cells : List Cell) (hs : List Head) (o : ℕ) (f : Span → List ℕ) (t : List ℕ) (n : Span) (v : Value) (s : Spot) (c : Cell) (h : Held) → AreObjectHeads (links cells) hs → o < length hs → IsSpot f t cells hs o s → slice_get cells s.place ≡ Some c → lane_of h ≡ Properties → property_in h ≡ with_value v (property_in c.held) → objects (held_at cells s.place h) 0 hs ≡ change (with_put f t n v) o (objects cells 0 hs)
put_over cells hs o f t n v s c h a b q r lane val =
    property_written cells s.place o s.position h hs a b q.at (inside cells s.place o Properties s.position q.at) lane
    ∙ change_same (with_property s.position (property_in h)) (with_put f t n v) o (objects cells 0 hs) (λ ob e.
    let k : place_named f t ob.properties ≡ Some s.position = ap (place_named f t) (sym e) ∙ q.is in
    let w : slice_get ob.properties s.position ≡ Some (property_in c.held) = ap (λ ps. slice_get ps s.position) (sym e) ∙ property_read cells hs s.place o s.position c a b q.at r in
    ap (λ p. with_property s.position p ob) (val ∙ ap (λ x. with_value v (present_property x)) (sym w)) ∙ ap (λ p. record ob { properties = put_at n v ob.properties p }) (sym k))

-- a write to a property that is not there
pub put_new : (obs : List Object) (o : ℕ) (f : Span → List ℕ) (t : List ℕ) (n : Span) (v : Value) → place_named f t (properties_of obs o) ≡ None → change (with_new_property n v) o obs ≡ change (with_put f t n v) o obs
put_new obs o f t n v none = change_same (with_new_property n v) (with_put f t n v) o obs (λ ob e. ap (λ p. record ob { properties = put_at n v ob.properties p }) (sym (ap (place_named f t) (sym e) ∙ none)))

-- the heap that contracts see
pub object_in : (cells : List Cell) (hs : List Head) (h : Heap) (o : ℕ) → objects cells 0 hs ≡ h.objects → o < length h.objects → o < length hs
object_in cells hs h o e b = omega (arith, ap length e, length_objects cells 0 hs)

pub changed_by : (a old : Heap) (obs : List Object) (f : Heap → Object → Object) (o : ℕ) → a ≡ old → obs ≡ change (f a) o a.objects → record a { objects = obs } ≡ with_object (f old) o old
changed_by a old obs f o e q = subst (λ (h : Heap). record a { objects = obs } ≡ with_object (f h) o h) e (ap (λ s. record a { objects = s }) q)

pub used_is : (a old : Heap) (cells : List Cell) (hs : List Head) → a ≡ old → a.objects ≡ objects cells 0 hs → AreObjectHeads (links cells) hs → cells_used old ≡ length cells + length a.scopes
used_is a old cells hs e q h = subst (λ (x : Heap). cells_used x ≡ length cells + length a.scopes) e (omega (arith, ap all_cells q, ledger cells hs h))

-- what stands at a position
pub stands : (cells : List Cell) (hs : List Head) (i o p : ℕ) (c : Cell) → AreObjectHeads (links cells) hs → o < length hs → (p ≡ 0 → ⊥) → IsCellAt (links cells) i o Properties (p - 1) → slice_get cells i ≡ Some c → property_in c.held ≡ at_position (properties_of (objects cells 0 hs) o) p
stands cells hs i o zero c a b n at e = absurd (n refl)
stands cells hs i o (suc k) c a b n at e =
    let z : suc k - 1 ≡ k = omega arith in
    let r = property_read cells hs i o (suc k - 1) c a b at e in
    ap present_property (sym r) ∙ ap (λ m. present_property (slice_get (properties_of (objects cells 0 hs) o) m)) z

pub properties_counted : (cells : List Cell) (hs : List Head) (o : ℕ) (h : Head) → AreObjectHeads (links cells) hs → slice_get hs o ≡ Some h → h.properties.count ≡ length (properties_of (objects cells 0 hs) o)
properties_counted cells hs o h a e =
    (a.heads o h e).properties.counted ∙ (count_owned o Properties cells ∙ (sym (length-map (cells_of_lane o Properties cells) (λ (c : Cell). property_in c.held)) ∙ ap length (sym (properties_are cells o hs (slice_get_within hs o h e)))))

pub elements_counted : (cells : List Cell) (hs : List Head) (o : ℕ) (h : Head) → AreObjectHeads (links cells) hs → slice_get hs o ≡ Some h → (elements_in h.what).count ≡ length (elements_of (objects cells 0 hs) o)
elements_counted cells hs o h a e =
    (a.heads o h e).elements.counted ∙ (count_owned o Elements cells ∙ (sym (length-map (cells_of_lane o Elements cells) (λ (c : Cell). value_of_held c.held)) ∙ ap length (sym (elements_are cells o hs (slice_get_within hs o h e)))))

pub past_all : (ps : List (Option (Span × Value))) (p : ℕ) → length ps < p → at_position ps p ≡ None
past_all ps zero b = refl
past_all ps (suc k) b = ap present_property (slice_get_past ps k (omega arith))

-- what is counted, in the heap and in the flat lists
pub sizes_are : (a old : Heap) (cells : List Cell) (hs : List Head) → a ≡ old → a.objects ≡ objects cells 0 hs → AreObjectHeads (links cells) hs → (length old.objects ≡ length hs) × (cells_used old ≡ length cells + length a.scopes) × (old.limits.objects ≡ a.limits.objects) × (old.limits.cells ≡ a.limits.cells)
sizes_are a old cells hs e q h = (sym (ap (λ (x : Heap). length x.objects) e) ∙ (ap length q ∙ length_objects cells 0 hs), used_is a old cells hs e q h, sym (ap (λ (x : Heap). x.limits.objects) e), sym (ap (λ (x : Heap). x.limits.cells) e))

pub ledger_is : (a old : Heap) (x y z : ℕ) → a ≡ old → x ≡ length a.objects → y ≡ cells_used a → z ≡ length a.made → record { objects = x; cells = y; text = z; frames = a.frames; stack = a.stack } ≡ the_ledger old
ledger_is a old x y z e p q r =
    let L = λ (i j k : ℕ). let m : Limits = record { objects = i; cells = j; text = k; frames = a.frames; stack = a.stack } in m in
    ap (λ i. L i y z) p ∙ (ap (λ j. L (length a.objects) j z) q ∙ (ap (λ k. L (length a.objects) (cells_used a) k) r ∙ ap the_ledger e))

-- an object of the heap that contracts see
pub object_seen : (a old : Heap) (cells : List Cell) (hs : List Head) (o : ℕ) (h : Head) → a ≡ old → a.objects ≡ objects cells 0 hs → slice_get hs o ≡ Some h → object_at old.objects o ≡ object_viewed cells o h
object_seen a old cells hs o h e q w = sym (ap (λ (x : Heap). object_at x.objects o) e) ∙ (ap (λ obs. object_at obs o) q ∙ (object_is cells 0 o hs h w ∙ ap (λ n. object_viewed cells n h) (zero_plus o)))
