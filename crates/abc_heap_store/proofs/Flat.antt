-- The records of flat lists.
use Rattle.std.proofs.Common.{◌≡◌, ℕ, true, zero, suc, ◌+◌, ◌<◌, ◌≤◌, List, [], ◌∷◌, Some, length, set, refl, sym, ap, ◌∙◌, subst, arith}
use Rattle.std.specs.Prelude.{slice_get, option_map}
use Rattle.std.proofs.lemmas.List.{length-map}
use Rattle.std.proofs.lemmas.Option.{slice_get-map, slice_get_within}
use Rattle.abc_heap_values.specs.declared.cell.Cell.{Cell}
use Rattle.abc_heap_values.specs.declared.cell.Lane.{Lane}
use Rattle.abc_heap_values.specs.declared.cell.Lane.TheVariants.{Slots, Properties, Elements}
use Rattle.abc_heap_values.specs.declared.chain.Chain.{Chain}
use Rattle.abc_heap_values.specs.Lanes.{lane_of, cells_of_lane, slots, properties, elements, value_of_held, property_in}
use Rattle.abc_heap_values.specs.Links.{Link, link_of, links, count, IsCellAt, IsChain, IsCellReached}
use Rattle.abc_heap_values.proofs.Parts.{slice_get_some}
use Rattle.abc_heap_values.proofs.Walks.{link_at}
use Rattle.abc_heap_values.proofs.Owned.{count_owned, owned_at}
use Rattle.abc_heap_store.specs.declared.heads.Head.{Head}
use Rattle.abc_heap_store.specs.What.{is_array, what_in}
use Rattle.abc_heap_store.specs.declared.records.What.{What}
use Rattle.abc_heap_store.specs.declared.records.What.TheVariants.{Plain, Closure, ClassObject, HostClass, Trace, Formula, HostObject, Global, Activation, Catch, Array}
use Rattle.abc_heap_store.specs.Heap.{Object, object_at, slots_of_object, properties_of, elements_of}
use Rattle.abc_heap_store.specs.Changes.{change}
use Rattle.abc_heap_store.specs.View.{object_viewed, objects, AreObjectHeads}

-- a part of an object, from the flat lists
pub slots_at : (cells : List Cell) (m o : ℕ) (hs : List Head) → o < length hs → slots_of_object (objects cells m hs) o ≡ slots (m + o) cells
slots_at cells m zero (h ∷ hs) b = ap (λ n. slots n cells) (omega arith)
slots_at cells m (suc o) (h ∷ hs) b = slots_at cells (m + 1) o hs (omega arith) ∙ ap (λ n. slots n cells) (omega arith)
slots_at cells m o [] b = absurd (omega arith)

pub properties_at : (cells : List Cell) (m o : ℕ) (hs : List Head) → o < length hs → properties_of (objects cells m hs) o ≡ properties (m + o) cells
properties_at cells m zero (h ∷ hs) b = ap (λ n. properties n cells) (omega arith)
properties_at cells m (suc o) (h ∷ hs) b = properties_at cells (m + 1) o hs (omega arith) ∙ ap (λ n. properties n cells) (omega arith)
properties_at cells m o [] b = absurd (omega arith)

pub elements_at : (cells : List Cell) (m o : ℕ) (hs : List Head) → o < length hs → elements_of (objects cells m hs) o ≡ elements (m + o) cells
elements_at cells m zero (h ∷ hs) b = ap (λ n. elements n cells) (omega arith)
elements_at cells m (suc o) (h ∷ hs) b = elements_at cells (m + 1) o hs (omega arith) ∙ ap (λ n. elements n cells) (omega arith)
elements_at cells m o [] b = absurd (omega arith)

-- what has a part is an object
pub slots_past : (cells : List Cell) (m o k : ℕ) (hs : List Head) → k < length (slots_of_object (objects cells m hs) o) → o < length hs
slots_past cells m zero k (h ∷ hs) b = omega arith
slots_past cells m (suc o) k (h ∷ hs) b = let r = slots_past cells (m + 1) o k hs b in omega arith
slots_past cells m o k [] b = absurd (omega arith)

pub properties_past : (cells : List Cell) (m o k : ℕ) (hs : List Head) → k < length (properties_of (objects cells m hs) o) → o < length hs
properties_past cells m zero k (h ∷ hs) b = omega arith
properties_past cells m (suc o) k (h ∷ hs) b = let r = properties_past cells (m + 1) o k hs b in omega arith
properties_past cells m o k [] b = absurd (omega arith)

pub elements_past : (cells : List Cell) (m o k : ℕ) (hs : List Head) → k < length (elements_of (objects cells m hs) o) → o < length hs
elements_past cells m zero k (h ∷ hs) b = omega arith
elements_past cells m (suc o) k (h ∷ hs) b = let r = elements_past cells (m + 1) o k hs b in omega arith
elements_past cells m o k [] b = absurd (omega arith)

pub zero_plus : (o : ℕ) → 0 + o ≡ o
zero_plus o = omega arith

pub slots_are : (cells : List Cell) (o : ℕ) (hs : List Head) → o < length hs → slots_of_object (objects cells 0 hs) o ≡ slots o cells
slots_are cells o hs b = slots_at cells 0 o hs b ∙ ap (λ n. slots n cells) (zero_plus o)

pub properties_are : (cells : List Cell) (o : ℕ) (hs : List Head) → o < length hs → properties_of (objects cells 0 hs) o ≡ properties o cells
properties_are cells o hs b = properties_at cells 0 o hs b ∙ ap (λ n. properties n cells) (zero_plus o)

pub elements_are : (cells : List Cell) (o : ℕ) (hs : List Head) → o < length hs → elements_of (objects cells 0 hs) o ≡ elements o cells
elements_are cells o hs b = elements_at cells 0 o hs b ∙ ap (λ n. elements n cells) (zero_plus o)

-- the place of a slot
pub slot_is : (cells : List Cell) (hs : List Head) (o k : ℕ) (h : Head) → AreObjectHeads (links cells) hs → slice_get hs o ≡ Some h → k < length (slots_of_object (objects cells 0 hs) o) → IsCellAt (links cells) (h.slots + k) o Slots k
slot_is cells hs o k h a e b =
    let w = slice_get_within hs o h e in
    (a.heads o h e).slots k (omega (arith, ap length (slots_are cells o hs w), length-map (cells_of_lane o Slots cells) (λ (c : Cell). value_of_held c.held), count_owned o Slots cells))

pub slot_bound : (cells : List Cell) (hs : List Head) (o k : ℕ) (h : Head) → AreObjectHeads (links cells) hs → slice_get hs o ≡ Some h → k < length (slots_of_object (objects cells 0 hs) o) → h.slots + k < length cells
slot_bound cells hs o k h a e b = omega (arith, (slot_is cells hs o k h a e b).inside, length-map cells link_of)

-- a place in a chain is reached from its last cell
pub chain_reached : (cells : List Cell) (o k : ℕ) (l : Lane) (c : Chain) → IsChain (links cells) o l c → k < count o l (links cells) → IsCellReached (links cells) c.last c.last k
chain_reached cells o k l c h b =
    let n = h.counted in
    let a = h.last (omega arith) in
    record { inside = a.inside; is = λ x y ex ey. let q : x ≡ y = cc in let s = a.is y ey in (sym (ap (λ (z : Link). z.owner) q), sym (ap (λ (z : Link). z.lane) q), omega (arith, s.2)) }

pub chain_at : (cells : List Cell) (i o k : ℕ) (l : Lane) (c : Chain) → IsChain (links cells) o l c → k < count o l (links cells) → ((x : Cell) → slice_get cells c.last ≡ Some x → IsCellAt (links cells) i x.owner (lane_of x.held) k) → IsCellAt (links cells) i o l k
chain_at cells i o k l c h b f =
    let n = h.counted in
    let a = h.last (omega arith) in
    let w = slice_get_some cells c.last (omega (arith, a.inside, length-map cells link_of)) in
    let s = a.is (link_of w.0) (link_at cells c.last w.0 w.1) in
    subst (λ p. IsCellAt (links cells) i p l k) s.0 (subst (λ m. IsCellAt (links cells) i w.0.owner m k) s.1 (f w.0 w.1))

-- a cell that holds an element
pub element_here : (cells : List Cell) (p o k : ℕ) (c : Cell) → slice_get cells p ≡ Some c → p < length cells → c.owner ≡ o → c.position ≡ k → lane_of c.held ≡ Elements → IsCellAt (links cells) p o Elements k
element_here cells p o k c e b own at lane =
    let there = link_at cells p c e in
    record { inside = omega (arith, b, length-map cells link_of); is = λ x q. let s : x ≡ link_of c = cc in (ap (λ (z : Link). z.owner) s ∙ own, ap (λ (z : Link). z.lane) s ∙ lane, ap (λ (z : Link). z.position) s ∙ at) }

pub property_count : (cells : List Cell) (hs : List Head) (o k : ℕ) → o < length hs → k < length (properties_of (objects cells 0 hs) o) → k < count o Properties (links cells)
property_count cells hs o k w b = omega (arith, ap length (properties_are cells o hs w), length-map (cells_of_lane o Properties cells) (λ (c : Cell). property_in c.held), count_owned o Properties cells)

pub element_count : (cells : List Cell) (hs : List Head) (o k : ℕ) → o < length hs → k < length (elements_of (objects cells 0 hs) o) → k < count o Elements (links cells)
element_count cells hs o k w b = omega (arith, ap length (elements_are cells o hs w), length-map (cells_of_lane o Elements cells) (λ (c : Cell). value_of_held c.held), count_owned o Elements cells)

-- what is read at a place
pub slot_read : (cells : List Cell) (hs : List Head) (i o k : ℕ) (c : Cell) → AreObjectHeads (links cells) hs → o < length hs → IsCellAt (links cells) i o Slots k → slice_get cells i ≡ Some c → slice_get (slots_of_object (objects cells 0 hs) o) k ≡ Some (value_of_held c.held)
slot_read cells hs i o k c a w at e = ap (λ xs. slice_get xs k) (slots_are cells o hs w) ∙ (slice_get-map (λ (c : Cell). value_of_held c.held) (cells_of_lane o Slots cells) k ∙ ap (option_map (λ (c : Cell). value_of_held c.held)) (owned_at cells i o Slots k c a.linked at e))

pub element_read : (cells : List Cell) (hs : List Head) (i o k : ℕ) (c : Cell) → AreObjectHeads (links cells) hs → o < length hs → IsCellAt (links cells) i o Elements k → slice_get cells i ≡ Some c → slice_get (elements_of (objects cells 0 hs) o) k ≡ Some (value_of_held c.held)
element_read cells hs i o k c a w at e = ap (λ xs. slice_get xs k) (elements_are cells o hs w) ∙ (slice_get-map (λ (c : Cell). value_of_held c.held) (cells_of_lane o Elements cells) k ∙ ap (option_map (λ (c : Cell). value_of_held c.held)) (owned_at cells i o Elements k c a.linked at e))

pub property_read : (cells : List Cell) (hs : List Head) (i o k : ℕ) (c : Cell) → AreObjectHeads (links cells) hs → o < length hs → IsCellAt (links cells) i o Properties k → slice_get cells i ≡ Some c → slice_get (properties_of (objects cells 0 hs) o) k ≡ Some (property_in c.held)
property_read cells hs i o k c a w at e = ap (λ xs. slice_get xs k) (properties_are cells o hs w) ∙ (slice_get-map (λ (c : Cell). property_in c.held) (cells_of_lane o Properties cells) k ∙ ap (option_map (λ (c : Cell). property_in c.held)) (owned_at cells i o Properties k c a.linked at e))

-- what an array is
pub array_is : (w : What) → is_array w ≡ true → w ≡ Array
array_is Array e = refl
array_is Plain e = absurd cc
array_is (Closure m h s b) e = absurd cc
array_is (ClassObject c h s i) e = absurd cc
array_is (HostClass c) e = absurd cc
array_is Trace e = absurd cc
array_is (Formula n) e = absurd cc
array_is HostObject e = absurd cc
array_is (Global s) e = absurd cc
array_is Activation e = absurd cc
array_is Catch e = absurd cc

-- one object changed, and no other
pub all_same : (cells new : List Cell) (m : ℕ) (hs : List Head) → ((i : ℕ) (x : Head) → m ≤ i → object_viewed new i x ≡ object_viewed cells i x) → objects new m hs ≡ objects cells m hs
all_same cells new m [] f = refl
all_same cells new m (h ∷ hs) f =
    let here = f m h (omega arith) in
    let rest = all_same cells new (m + 1) hs (λ i x b. f i x (omega arith)) in
    ap (λ ob. ob ∷ objects new (m + 1) hs) here ∙ ap (λ obs. object_viewed cells m h ∷ obs) rest

pub one_changed : (cells new : List Cell) (m o : ℕ) (hs : List Head) (h : Head) (f : Object → Object) → ((i : ℕ) (x : Head) → (i ≡ m + o → ⊥) → object_viewed new i x ≡ object_viewed cells i x) → ((x : Head) → slice_get hs o ≡ Some x → object_viewed new (m + o) h ≡ f (object_viewed cells (m + o) x)) → o < length hs → objects new m (set hs o h) ≡ change f o (objects cells m hs)
one_changed cells new m zero (x ∷ hs) h f other own b =
    let e : m + 0 ≡ m = omega arith in
    let here : object_viewed new m h ≡ f (object_viewed cells m x) = subst (λ n. object_viewed new n h ≡ f (object_viewed cells n x)) e (own x refl) in
    let rest = all_same cells new (m + 1) hs (λ i y q. other i y (λ (r : i ≡ m + 0). absurd (omega arith))) in
    ap (λ ob. ob ∷ objects new (m + 1) hs) here ∙ ap (λ obs. f (object_viewed cells m x) ∷ obs) rest
one_changed cells new m (suc o) (x ∷ hs) h f other own b =
    let here = other m x (λ (r : m ≡ m + suc o). absurd (omega arith)) in
    let e : m + suc o ≡ (m + 1) + o = omega arith in
    let rest = one_changed cells new (m + 1) o hs h f (λ i y q. other i y (λ (r : i ≡ m + suc o). q (r ∙ e))) (λ y q. subst (λ n. object_viewed new n h ≡ f (object_viewed cells n y)) e (own y q)) (omega arith) in
    ap (λ ob. ob ∷ objects new (m + 1) (set hs o h)) here ∙ ap (λ obs. object_viewed cells m x ∷ obs) rest
one_changed cells new m o [] h f other own b = absurd (omega arith)

pub length_objects : (cells : List Cell) (m : ℕ) (hs : List Head) → length (objects cells m hs) ≡ length hs
length_objects cells m [] = refl
length_objects cells m (h ∷ hs) = ap suc (length_objects cells (m + 1) hs)

-- an object, from the flat lists
pub object_is : (cells : List Cell) (m o : ℕ) (hs : List Head) (h : Head) → slice_get hs o ≡ Some h → object_at (objects cells m hs) o ≡ object_viewed cells (m + o) h
object_is cells m zero (x ∷ hs) h e = let q : x ≡ h = cc in ap (λ n. object_viewed cells n x) (omega arith) ∙ ap (object_viewed cells (m + 0)) q
object_is cells m (suc o) (x ∷ hs) h e = object_is cells (m + 1) o hs h e ∙ ap (λ n. object_viewed cells n h) (omega arith)
object_is cells m o [] h e = absurd cc

-- an array's head
pub array_head : (cells : List Cell) (hs : List Head) (o : ℕ) (h : Head) → slice_get hs o ≡ Some h → is_array (object_at (objects cells 0 hs) o).what ≡ true → what_in h.what ≡ Array
array_head cells hs o h e a = array_is (what_in h.what) (sym (ap (λ (ob : Object). is_array ob.what) (object_is cells 0 o hs h e)) ∙ a)
