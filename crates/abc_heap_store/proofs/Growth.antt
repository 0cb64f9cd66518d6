-- One more cell changes one object, and no other.
use Rattle.std.proofs.Common.{◌≡◌, ℕ, zero, suc, ◌+◌, ◌<◌, false, List, [], ◌∷◌, ◌++◌, Some, length, set, refl, sym, ap, ◌∙◌, subst, arith, length-append, ◌⊎◌, inl, inr, append-nil}
use Rattle.std.specs.Prelude.{slice_get, nat_eq}
use Rattle.std.proofs.lemmas.List.{map-append}
use Rattle.std.proofs.lemmas.Bool.{ne_eqb, and_left, and_right}
use Rattle.abc_heap_values.specs.declared.cell.Cell.{Cell}
use Rattle.abc_heap_values.specs.declared.cell.Held.TheVariants.{Property, Element}
use Rattle.abc_heap_values.specs.declared.values.Value.{Value}
use Rattle.abc_heap_values.specs.declared.values.Span.{Span}
use Rattle.abc_heap_values.specs.declared.cell.Lane.{Lane}
use Rattle.abc_heap_values.specs.declared.cell.Lane.TheVariants.{Slots, Properties, Elements}
use Rattle.abc_heap_values.specs.declared.chain.Chain.{Chain}
use Rattle.abc_heap_values.specs.Lanes.{lane_of, same_lane, belongs_to_lane, cells_of_lane, value_of_held, property_in}
use Rattle.abc_heap_values.specs.Links.{Link, link_of, links, is_in_lane, count, IsCellAt, IsChain, AreLinked, IsCellAdded}
use Rattle.abc_heap_values.proofs.Parts.{slice_get_more}
use Rattle.abc_heap_values.proofs.Grows.{count_out, chain_other, at_more, is_in_own, links_more}
use Rattle.abc_heap_values.proofs.Owned.{owned_more, owned_past, is_of_other, is_of_lane}
use Rattle.abc_heap_store.specs.declared.heads.Head.{Head}
use Rattle.abc_heap_store.specs.declared.stored.StoredWhat.TheVariants as kept
use Rattle.abc_heap_store.specs.declared.records.What.TheVariants.{Array}
use Rattle.abc_heap_store.specs.What.{what_in, elements_in}
use Rattle.abc_heap_store.specs.Heap.{Object}
use Rattle.abc_heap_store.specs.Changes.{change, with_new_property, with_new_element}
use Rattle.abc_heap_store.specs.View.{object_viewed, objects, IsHead, AreObjectHeads}
use Rattle.abc_heap_store.proofs.Flat.{one_changed, zero_plus}
use Rattle.abc_heap_store.proofs.Writes.{built}

pub set_read : {X : Type 0} (xs : List X) (o i : ℕ) (x y : X) → slice_get (set xs o x) i ≡ Some y → ((i ≡ o) × (x ≡ y)) ⊎ ((i ≡ o → ⊥) × (slice_get xs i ≡ Some y))
set_read [] o i x y e = absurd cc
set_read (a ∷ xs) zero zero x y e = inl (refl, cc)
set_read (a ∷ xs) zero (suc i) x y e = inr (λ (q : suc i ≡ 0). absurd (omega arith), e)
set_read (a ∷ xs) (suc o) zero x y e = inr (λ (q : 0 ≡ suc o). absurd (omega arith), e)
set_read (a ∷ xs) (suc o) (suc i) x y e = elim (set_read xs o i x y e) [ inl h ↦ inl (ap suc h.0, h.1) | inr h ↦ inr (λ (q : suc i ≡ suc o). h.0 (omega arith), h.1) ]

set_length : {X : Type 0} (xs : List X) (o : ℕ) (x : X) → length (set xs o x) ≡ length xs
set_length [] o x = refl
set_length (a ∷ xs) zero x = refl
set_length (a ∷ xs) (suc o) x = ap suc (set_length xs o x)

-- the slots of an object that the new cell is no slot of
slots_stay : (xs : List Link) (x : Link) (i : ℕ) (h : Head) → ((k : ℕ) → k < count i Slots xs → IsCellAt xs (h.slots + k) i Slots k) → is_in_lane i Slots x ≡ false → (k : ℕ) → k < count i Slots (xs ++ x ∷ []) → IsCellAt (xs ++ x ∷ []) (h.slots + k) i Slots k
slots_stay xs x i h f n k b = at_more xs (x ∷ []) (h.slots + k) i Slots k (f k (omega (arith, count_out i Slots xs x n)))

head_other : (xs : List Link) (x : Link) (i : ℕ) (h : Head) → IsHead xs i h → ((l : Lane) → is_in_lane i l x ≡ false) → IsHead (xs ++ x ∷ []) i h
head_other xs x i h a f = record {
  slots = slots_stay xs x i h a.slots (f Slots);
  properties = chain_other xs x i Properties h.properties (f Properties) a.properties;
  elements = chain_other xs x i Elements (elements_in h.what) (f Elements) a.elements;
}

pub grown_heads : (xs : List Link) (x : Link) (hs : List Head) (o : ℕ) (h : Head) → AreObjectHeads xs hs → AreLinked (xs ++ x ∷ []) → x.owner ≡ o → o < length hs → IsHead (xs ++ x ∷ []) o h → AreObjectHeads (xs ++ x ∷ []) (set hs o h)
grown_heads xs x hs o h a l w b own = record {
  linked = l;
  heads = λ i y e. elim (set_read hs o i h y e) [
    | inl q ↦ subst (λ n. IsHead (xs ++ x ∷ []) n y) (sym q.0) (subst (λ (z : Head). IsHead (xs ++ x ∷ []) o z) q.1 own)
    | inr q ↦ head_other xs x i y (a.heads i y q.1) (λ m. and_left (nat_eq x.owner i) (same_lane x.lane m) (ne_eqb x.owner i (λ r. q.0 (sym r ∙ w))))
  ];
  owners = λ i y e. elim (slice_get_more xs x y i e) [
    | inl q ↦ omega (arith, a.owners i y q.1, set_length hs o h)
    | inr q ↦ omega (arith, ap (λ (z : Link). z.owner) q.1, w, b, set_length hs o h)
  ];
}

pub past : (cells : List Cell) (c : Cell) (o : ℕ) (l : Lane) → belongs_to_lane o l c ≡ false → cells_of_lane o l (cells ++ c ∷ []) ≡ cells_of_lane o l cells
past cells c o l f = owned_past cells c o l f ∙ append-nil (cells_of_lane o l cells)

pub grown_objects : (cells : List Cell) (c : Cell) (hs : List Head) (o : ℕ) (h : Head) (f : Object → Object) → c.owner ≡ o → o < length hs → ((x : Head) → slice_get hs o ≡ Some x → object_viewed (cells ++ c ∷ []) o h ≡ f (object_viewed cells o x)) → objects (cells ++ c ∷ []) 0 (set hs o h) ≡ change f o (objects cells 0 hs)
grown_objects cells c hs o h f w b own =
    let z = zero_plus o in
    one_changed cells (cells ++ c ∷ []) 0 o hs h f
    (λ i x n.
    let far : i ≡ o → ⊥ = λ (q : i ≡ o). n (q ∙ sym z) in
    built x (cells_of_lane i Slots (cells ++ c ∷ [])) (cells_of_lane i Slots cells) (cells_of_lane i Properties (cells ++ c ∷ [])) (cells_of_lane i Properties cells) (cells_of_lane i Elements (cells ++ c ∷ [])) (cells_of_lane i Elements cells)
    (past cells c i Slots (is_of_other c o i Slots w far)) (past cells c i Properties (is_of_other c o i Properties w far)) (past cells c i Elements (is_of_other c o i Elements w far)))
    (λ x e. subst (λ n. object_viewed (cells ++ c ∷ []) n h ≡ f (object_viewed cells n x)) (sym z) (own x e))
    b

-- a property, and an element, at the end
pub property_added : (cells : List Cell) (c : Cell) (hs : List Head) (o : ℕ) (x : Head) (d : Chain) (n : Span) (v : Value) → c.owner ≡ o → c.held ≡ Property n v → slice_get hs o ≡ Some x → o < length hs → objects (cells ++ c ∷ []) 0 (set hs o (record x { properties = d })) ≡ change (with_new_property n v) o (objects cells 0 hs)
property_added cells c hs o x d n v w q e b =
    let lane : lane_of c.held ≡ Properties = ap lane_of q in
    grown_objects cells c hs o (record x { properties = d }) (with_new_property n v) w b (λ y ey.
    let same : x ≡ y = cc in
    built x (cells_of_lane o Slots (cells ++ c ∷ [])) (cells_of_lane o Slots cells) (cells_of_lane o Properties (cells ++ c ∷ [])) (cells_of_lane o Properties cells ++ c ∷ []) (cells_of_lane o Elements (cells ++ c ∷ [])) (cells_of_lane o Elements cells)
    (past cells c o Slots (is_of_lane c o Slots (ap (λ m. same_lane m Slots) lane))) (owned_more cells c o Properties (is_in_own (link_of c) o Properties w lane)) (past cells c o Elements (is_of_lane c o Elements (ap (λ m. same_lane m Elements) lane)))
    ∙ (ap (λ ps. record (object_viewed cells o x) { properties = ps }) (map-append (λ (c : Cell). property_in c.held) (cells_of_lane o Properties cells) (c ∷ []))
    ∙ (ap (λ p. record (object_viewed cells o x) { properties = (object_viewed cells o x).properties ++ p ∷ [] }) (ap property_in q)
    ∙ ap (λ (y : Head). with_new_property n v (object_viewed cells o y)) same)))

pub element_added : (cells : List Cell) (c : Cell) (hs : List Head) (o : ℕ) (x : Head) (d : Chain) (v : Value) → c.owner ≡ o → c.held ≡ Element v → slice_get hs o ≡ Some x → o < length hs → what_in x.what ≡ Array → objects (cells ++ c ∷ []) 0 (set hs o (record x { what = kept.Array d })) ≡ change (with_new_element v) o (objects cells 0 hs)
element_added cells c hs o x d v w q e b array =
    let lane : lane_of c.held ≡ Elements = ap lane_of q in
    let h : Head = record x { what = kept.Array d } in
    grown_objects cells c hs o h (with_new_element v) w b (λ y ey.
    let same : x ≡ y = cc in
    built h (cells_of_lane o Slots (cells ++ c ∷ [])) (cells_of_lane o Slots cells) (cells_of_lane o Properties (cells ++ c ∷ [])) (cells_of_lane o Properties cells) (cells_of_lane o Elements (cells ++ c ∷ [])) (cells_of_lane o Elements cells ++ c ∷ [])
    (past cells c o Slots (is_of_lane c o Slots (ap (λ m. same_lane m Slots) lane))) (past cells c o Properties (is_of_lane c o Properties (ap (λ m. same_lane m Properties) lane))) (owned_more cells c o Elements (is_in_own (link_of c) o Elements w lane))
    ∙ (ap (λ ps. record (object_viewed cells o h) { elements = ps }) (map-append (λ (c : Cell). value_of_held c.held) (cells_of_lane o Elements cells) (c ∷ []))
    ∙ (ap (λ p. record (object_viewed cells o h) { elements = (object_viewed cells o x).elements ++ p ∷ [] }) (ap value_of_held q)
    ∙ (ap (λ k. record (with_new_element v (object_viewed cells o x)) { what = k }) (sym array)
    ∙ ap (λ (y : Head). with_new_element v (object_viewed cells o y)) same))))

pub lane_off : (x : Link) (o : ℕ) (l m : Lane) → x.lane ≡ l → same_lane l m ≡ false → is_in_lane o m x ≡ false
lane_off x o l m e f = and_right (nat_eq x.owner o) (same_lane x.lane m) (ap (λ n. same_lane n m) e ∙ f)

-- the head with its longer chain
pub property_head : (xs : List Link) (x : Link) (o : ℕ) (h : Head) (d : Chain) → IsHead xs o h → x.lane ≡ Properties → IsChain (xs ++ x ∷ []) o Properties d → IsHead (xs ++ x ∷ []) o (record h { properties = d })
property_head xs x o h d a e c = record {
  slots = slots_stay xs x o h a.slots (lane_off x o Properties Slots e refl);
  properties = c;
  elements = chain_other xs x o Elements (elements_in h.what) (lane_off x o Properties Elements e refl) a.elements;
}

pub element_head : (xs : List Link) (x : Link) (o : ℕ) (h : Head) (d : Chain) → IsHead xs o h → x.lane ≡ Elements → IsChain (xs ++ x ∷ []) o Elements d → IsHead (xs ++ x ∷ []) o (record h { what = kept.Array d })
element_head xs x o h d a e c = record {
  slots = slots_stay xs x o h a.slots (lane_off x o Elements Slots e refl);
  properties = chain_other xs x o Properties h.properties (lane_off x o Elements Properties e refl) a.properties;
  elements = c;
}

-- both, from what an append promises
pub property_grown : (cells new : List Cell) (hs : List Head) (o : ℕ) (x : Head) (d : Chain) (n : Span) (v : Value) → AreObjectHeads (links cells) hs → slice_get hs o ≡ Some x → o < length hs → IsCellAdded cells new o (Property n v) → AreLinked (links new) → IsChain (links new) o Properties d → (objects new 0 (set hs o (record x { properties = d })) ≡ change (with_new_property n v) o (objects cells 0 hs)) × AreObjectHeads (links new) (set hs o (record x { properties = d })) × (length new ≡ length cells + 1)
property_grown cells new hs o x d n v a e b (c, q, w, h) l k =
    let more : links new ≡ links cells ++ link_of c ∷ [] = ap links q ∙ links_more cells c in
    let l' : AreLinked (links cells ++ link_of c ∷ []) = subst AreLinked more l in
    let k' : IsChain (links cells ++ link_of c ∷ []) o Properties d = subst (λ xs. IsChain xs o Properties d) more k in (
      ap (λ cs. objects cs 0 (set hs o (record x { properties = d }))) q ∙ property_added cells c hs o x d n v w h e b,
      subst (λ xs. AreObjectHeads xs (set hs o (record x { properties = d }))) (sym more) (grown_heads (links cells) (link_of c) hs o (record x { properties = d }) a l' w b (property_head (links cells) (link_of c) o x d (a.heads o x e) (ap lane_of h) k')),
      ap length q ∙ length-append cells (c ∷ []),
    )

pub element_grown : (cells new : List Cell) (hs : List Head) (o : ℕ) (x : Head) (d : Chain) (v : Value) → AreObjectHeads (links cells) hs → slice_get hs o ≡ Some x → o < length hs → what_in x.what ≡ Array → IsCellAdded cells new o (Element v) → AreLinked (links new) → IsChain (links new) o Elements d → (objects new 0 (set hs o (record x { what = kept.Array d })) ≡ change (with_new_element v) o (objects cells 0 hs)) × AreObjectHeads (links new) (set hs o (record x { what = kept.Array d })) × (length new ≡ length cells + 1)
element_grown cells new hs o x d v a e b array (c, q, w, h) l k =
    let more : links new ≡ links cells ++ link_of c ∷ [] = ap links q ∙ links_more cells c in
    let l' : AreLinked (links cells ++ link_of c ∷ []) = subst AreLinked more l in
    let k' : IsChain (links cells ++ link_of c ∷ []) o Elements d = subst (λ xs. IsChain xs o Elements d) more k in (
      ap (λ cs. objects cs 0 (set hs o (record x { what = kept.Array d }))) q ∙ element_added cells c hs o x d v w h e b array,
      subst (λ xs. AreObjectHeads xs (set hs o (record x { what = kept.Array d }))) (sym more) (grown_heads (links cells) (link_of c) hs o (record x { what = kept.Array d }) a l' w b (element_head (links cells) (link_of c) o x d (a.heads o x e) (ap lane_of h) k')),
      ap length q ∙ length-append cells (c ∷ []),
    )
