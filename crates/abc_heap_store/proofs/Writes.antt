-- One thing held anew changes one object, and no other.
use Rattle.std.proofs.Common.{◌≡◌, ℕ, zero, suc, ◌<◌, false, List, [], ◌∷◌, Some, length, map, refl, sym, ap, ◌∙◌, subst, arith}
use Rattle.std.specs.Prelude.{slice_get}
use Rattle.abc_heap_values.specs.Filling.{Filling}
use Rattle.abc_heap_values.specs.declared.cell.Cell.{Cell}
use Rattle.abc_heap_values.specs.declared.cell.Held.{Held}
use Rattle.abc_heap_values.specs.declared.cell.Held.TheVariants.{Slot, Element}
use Rattle.abc_heap_values.specs.declared.values.Value.{Value}
use Rattle.abc_heap_values.specs.declared.cell.Lane.{Lane}
use Rattle.abc_heap_values.specs.declared.cell.Lane.TheVariants.{Slots, Properties, Elements}
use Rattle.abc_heap_values.specs.Lanes.{lane_of, same_lane, cells_of_lane, value_of_held, property_in}
use Rattle.abc_heap_values.specs.Links.{link_of, links, IsCellAt, held_at}
use Rattle.abc_heap_values.proofs.Parts.{slice_get_some, set_same}
use Rattle.abc_heap_values.proofs.Walks.{link_at}
use Rattle.abc_heap_values.proofs.Owned.{owned_held, owned_apart, links_held, is_of_other, is_of_lane, map_held}
use Rattle.abc_heap_store.specs.declared.heads.Head.{Head}
use Rattle.abc_heap_store.specs.declared.records.ScopeNode.{ScopeNode}
use Rattle.abc_heap_store.specs.declared.records.Limits.{Limits}
use Rattle.abc_heap_store.specs.Heap.{Object, Heap}
use Rattle.abc_heap_store.specs.Changes.{change, with_slot, with_property, with_element}
use Rattle.abc_heap_store.specs.What.{what_in}
use Rattle.abc_heap_store.specs.View.{object_viewed, objects, AreObjectHeads, HasLimits}
use Rattle.abc_heap_store.proofs.Flat.{one_changed, zero_plus}

abbrev pub build : Head → List Cell → List Cell → List Cell → Object
build h a b d = record { layout = h.layout; delegate = h.delegate; slots = map (λ (c : Cell). value_of_held c.held) a; properties = map (λ (c : Cell). property_in c.held) b; elements = map (λ (c : Cell). value_of_held c.held) d; what = what_in h.what }

pub built : (h : Head) (a a' b b' d d' : List Cell) → a ≡ a' → b ≡ b' → d ≡ d' → build h a b d ≡ build h a' b' d'
built h a a' b b' d d' p q r = ap (λ x. build h x b d) p ∙ (ap (λ x. build h a' x d) q ∙ ap (λ x. build h a' b' x) r)

-- the list of a place's cell
pub cell_in : (cells : List Cell) (p o : ℕ) (l : Lane) (k : ℕ) (c : Cell) → IsCellAt (links cells) p o l k → slice_get cells p ≡ Some c → (c.owner ≡ o) × (lane_of c.held ≡ l)
cell_in cells p o l k c at e = let s = at.is (link_of c) (link_at cells p c e) in (s.0, s.1)

-- another list of the same object
other_lane : (cells : List Cell) (p o : ℕ) (l m : Lane) (k : ℕ) (c : Cell) (h : Held) → IsCellAt (links cells) p o l k → slice_get cells p ≡ Some c → lane_of h ≡ l → same_lane l m ≡ false → cells_of_lane o m (held_at cells p h) ≡ cells_of_lane o m cells
other_lane cells p o l m k c h at e s f =
    let w = (cell_in cells p o l k c at e).1 in
    owned_apart cells p c h o m e (is_of_lane c o m (ap (λ n. same_lane n m) w ∙ f)) (s ∙ sym w)

other_object : (cells : List Cell) (p o : ℕ) (l : Lane) (k : ℕ) (c : Cell) (h : Held) → IsCellAt (links cells) p o l k → slice_get cells p ≡ Some c → lane_of h ≡ l → (i : ℕ) (x : Head) → (i ≡ o → ⊥) → object_viewed (held_at cells p h) i x ≡ object_viewed cells i x
other_object cells p o l k c h at e s i x n =
    let w = cell_in cells p o l k c at e in
    let same : lane_of h ≡ lane_of c.held = s ∙ sym w.1 in
    let apart = λ (m : Lane). owned_apart cells p c h i m e (is_of_other c o i m w.0 n) same in
    built x (cells_of_lane i Slots (held_at cells p h)) (cells_of_lane i Slots cells) (cells_of_lane i Properties (held_at cells p h)) (cells_of_lane i Properties cells) (cells_of_lane i Elements (held_at cells p h)) (cells_of_lane i Elements cells) (apart Slots) (apart Properties) (apart Elements)

held_changed : (cells : List Cell) (p o : ℕ) (l : Lane) (k : ℕ) (c : Cell) (h : Held) (hs : List Head) (f : Object → Object) → IsCellAt (links cells) p o l k → slice_get cells p ≡ Some c → lane_of h ≡ l → o < length hs → ((x : Head) → object_viewed (held_at cells p h) o x ≡ f (object_viewed cells o x)) → objects (held_at cells p h) 0 hs ≡ change f o (objects cells 0 hs)
held_changed cells p o l k c h hs f at e s b own =
    let w = slice_get_some hs o b in
    let z = zero_plus o in
    ap (objects (held_at cells p h) 0) (sym (set_same hs o w.0 w.1))
    ∙ one_changed cells (held_at cells p h) 0 o hs w.0 f (λ i x n. other_object cells p o l k c h at e s i x (λ q. n (q ∙ sym z))) (λ x ex. let q : w.0 ≡ x = cc in subst (λ n. object_viewed (held_at cells p h) n w.0 ≡ f (object_viewed cells n x)) (sym z) (subst (λ (y : Head). object_viewed (held_at cells p h) o w.0 ≡ f (object_viewed cells o y)) q (own w.0))) b

pub slot_written : (cells : List Cell) (p o k : ℕ) (v : Value) (hs : List Head) → AreObjectHeads (links cells) hs → o < length hs → IsCellAt (links cells) p o Slots k → p < length cells → objects (held_at cells p (Slot v)) 0 hs ≡ change (with_slot k v) o (objects cells 0 hs)
slot_written cells p o k v hs a b at inside =
    let w = slice_get_some cells p inside in
    held_changed cells p o Slots k w.0 (Slot v) hs (with_slot k v) at w.1 refl b (λ x.
    built x (cells_of_lane o Slots (held_at cells p (Slot v))) (held_at (cells_of_lane o Slots cells) k (Slot v)) (cells_of_lane o Properties (held_at cells p (Slot v))) (cells_of_lane o Properties cells) (cells_of_lane o Elements (held_at cells p (Slot v))) (cells_of_lane o Elements cells)
    (owned_held cells p o Slots k w.0 (Slot v) a.linked at w.1 refl) (other_lane cells p o Slots Properties k w.0 (Slot v) at w.1 refl refl) (other_lane cells p o Slots Elements k w.0 (Slot v) at w.1 refl refl)
    ∙ ap (λ s. record (object_viewed cells o x) { slots = s }) (map_held value_of_held (cells_of_lane o Slots cells) k (Slot v)))

pub element_written : (cells : List Cell) (p o k : ℕ) (v : Value) (hs : List Head) → AreObjectHeads (links cells) hs → o < length hs → IsCellAt (links cells) p o Elements k → p < length cells → objects (held_at cells p (Element v)) 0 hs ≡ change (with_element k v) o (objects cells 0 hs)
element_written cells p o k v hs a b at inside =
    let w = slice_get_some cells p inside in
    held_changed cells p o Elements k w.0 (Element v) hs (with_element k v) at w.1 refl b (λ x.
    built x (cells_of_lane o Slots (held_at cells p (Element v))) (cells_of_lane o Slots cells) (cells_of_lane o Properties (held_at cells p (Element v))) (cells_of_lane o Properties cells) (cells_of_lane o Elements (held_at cells p (Element v))) (held_at (cells_of_lane o Elements cells) k (Element v))
    (other_lane cells p o Elements Slots k w.0 (Element v) at w.1 refl refl) (other_lane cells p o Elements Properties k w.0 (Element v) at w.1 refl refl) (owned_held cells p o Elements k w.0 (Element v) a.linked at w.1 refl)
    ∙ ap (λ s. record (object_viewed cells o x) { elements = s }) (map_held value_of_held (cells_of_lane o Elements cells) k (Element v)))

pub property_written : (cells : List Cell) (p o k : ℕ) (h : Held) (hs : List Head) → AreObjectHeads (links cells) hs → o < length hs → IsCellAt (links cells) p o Properties k → p < length cells → lane_of h ≡ Properties → objects (held_at cells p h) 0 hs ≡ change (with_property k (property_in h)) o (objects cells 0 hs)
property_written cells p o k h hs a b at inside s =
    let w = slice_get_some cells p inside in
    held_changed cells p o Properties k w.0 h hs (with_property k (property_in h)) at w.1 s b (λ x.
    built x (cells_of_lane o Slots (held_at cells p h)) (cells_of_lane o Slots cells) (cells_of_lane o Properties (held_at cells p h)) (held_at (cells_of_lane o Properties cells) k h) (cells_of_lane o Elements (held_at cells p h)) (cells_of_lane o Elements cells)
    (other_lane cells p o Properties Slots k w.0 h at w.1 s refl) (owned_held cells p o Properties k w.0 h a.linked at w.1 s) (other_lane cells p o Properties Elements k w.0 h at w.1 s refl)
    ∙ ap (λ s. record (object_viewed cells o x) { properties = s }) (map_held property_in (cells_of_lane o Properties cells) k h))

-- the invariant stays
pub length_held : (cells : List Cell) (p : ℕ) (h : Held) → length (held_at cells p h) ≡ length cells
length_held [] p h = refl
length_held (c ∷ cells) zero h = refl
length_held (c ∷ cells) (suc p) h = ap suc (length_held cells p h)

pub hold_keeps : (hs : Filling Head) (cs new : Filling Cell) (ss : Filling ScopeNode) (ts : Filling ℕ) (m : Limits) (p o : ℕ) (l : Lane) (k : ℕ) (h : Held) → AreObjectHeads (links cs.items) hs.items × HasLimits hs cs ss ts m → IsCellAt (links cs.items) p o l k → p < length cs.items → lane_of h ≡ l → new ≡ record { items = held_at cs.items p h; limit = cs.limit } → AreObjectHeads (links new.items) hs.items × HasLimits hs new ss ts m
hold_keeps hs cs new ss ts m p o l k h inv at inside s e =
    let w = slice_get_some cs.items p inside in
    let same : lane_of h ≡ lane_of w.0.held = s ∙ sym (cell_in cs.items p o l k w.0 at w.1).1 in
    let r = inv.1 in
    let P : Filling Cell → Type 0 = λ n. AreObjectHeads (links n.items) hs.items × HasLimits hs n ss ts m in
    subst P (sym e) (subst (λ xs. AreObjectHeads xs hs.items) (sym (links_held cs.items p w.0 h w.1 same)) inv.0, record { objects = r.objects; cells = r.cells; scopes = r.scopes; text = r.text; within = omega (arith, r.within, length_held cs.items p h); small = r.small })

-- a heap with one object changed
pub changed : (old a : Heap) (obs : List Object) (f : Object → Object) (o : ℕ) → a ≡ old → obs ≡ change f o a.objects → record a { objects = obs } ≡ record old { objects = change f o old.objects }
changed old a obs f o e q = subst (λ (v : Heap). record a { objects = obs } ≡ record v { objects = change f o v.objects }) e (ap (λ s. record a { objects = s }) q)

-- what a place in the links says of the cells
pub inside : (cells : List Cell) (p o : ℕ) (l : Lane) (k : ℕ) → IsCellAt (links cells) p o l k → p < length cells
inside cells p o l k at = omega (arith, at.inside, links_length cells)
  where
    links_length : (cells : List Cell) → length (links cells) ≡ length cells
    links_length [] = refl
    links_length (c ∷ cells) = ap suc (links_length cells)
