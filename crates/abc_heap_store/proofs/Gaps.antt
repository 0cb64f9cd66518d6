-- Emptied positions know of each other, also after a write and with one more cell.
use Rattle.std.proofs.Common.{◌≡◌, ℕ, zero, suc, ◌+◌, ◌*◌, ◌<◌, ◌≤◌, Bool, true, false, cond, List, [], ◌∷◌, ◌++◌, Option, Some, None, length, map, refl, sym, ap, ◌∙◌, subst, arith, inl, inr}
use Rattle.std.specs.Prelude.{slice_get, nat_eq, is_some, option_map, ◌&&◌}
use Rattle.std.proofs.lemmas.Bool.{cases_lt}
use Rattle.std.proofs.lemmas.List.{map-append}
use Rattle.std.proofs.lemmas.List.Elements.{filter-append}
use Rattle.std.proofs.lemmas.Option.{same_Some, slice_get-map, slice_get_within}
use Rattle.abc_heap_values.specs.Filling.{Filling}
use Rattle.abc_heap_values.specs.declared.values.Span.{Span}
use Rattle.abc_heap_values.specs.declared.values.Value.{Value}
use Rattle.abc_heap_values.specs.declared.cell.Cell.{Cell}
use Rattle.abc_heap_values.specs.declared.cell.Held.{Held}
use Rattle.abc_heap_values.specs.declared.cell.Held.TheVariants.{Slot, Property, Deleted, Element}
use Rattle.abc_heap_values.specs.declared.cell.Lane.TheVariants.{Slots, Properties, Elements}
use Rattle.abc_heap_values.specs.Lanes.{lane_of, same_lane, belongs_to_lane, cells_of_lane, properties, property_in}
use Rattle.abc_heap_values.specs.Links.{link_of, links, IsCellAt, AreLinked, held_at}
use Rattle.abc_heap_values.proofs.Parts.{slice_get_more, slice_get_left, slice_get_some}
use Rattle.abc_heap_values.proofs.Walks.{link_at}
use Rattle.abc_heap_values.proofs.Grows.{set_held}
use Rattle.abc_heap_values.proofs.Owned.{owned_at, links_held}
use Rattle.abc_heap_store.specs.declared.heads.Head.{Head}
use Rattle.abc_heap_store.specs.Gaps.{empty_in, AreEmpty, IsGap, AreGaps}
use Rattle.abc_heap_store.specs.Heap.{properties_of}
use Rattle.abc_heap_store.specs.Properties.{at_position, present_property, next_filled}
use Rattle.abc_heap_store.specs.View.{objects, AreObjectHeads}
use Rattle.abc_heap_store.proofs.Flat.{properties_are, property_read}
use Rattle.abc_heap_store.proofs.Growth.{set_read}
use Rattle.abc_heap_store.proofs.Positions.{next_here}
use Rattle.abc_heap_store.proofs.Writes.{cell_in, inside}

abbrev held_properties : List Cell → List (Option (Span × Value))
held_properties cells = map (λ (c : Cell). property_in c.held) cells

-- a position that is empty stays so: behind another cell, which is empty where the old one was
first_stays : (b : Bool) (x y : Cell) (cells : List Cell) (j : ℕ) → (property_in x.held ≡ None → property_in y.held ≡ None) → slice_get (held_properties (cond b (x ∷ cells) cells)) j ≡ Some None → slice_get (held_properties (cond b (y ∷ cells) cells)) j ≡ Some None
first_stays true x y cells zero f e = ap Some (f (same_Some (property_in x.held) None e))
first_stays true x y cells (suc j) f e = e
first_stays false x y cells j f e = e

rest_stays : (b : Bool) (x : Cell) (cells new : List Cell) (j : ℕ) → ((i : ℕ) → slice_get (held_properties cells) i ≡ Some None → slice_get (held_properties new) i ≡ Some None) → slice_get (held_properties (cond b (x ∷ cells) cells)) j ≡ Some None → slice_get (held_properties (cond b (x ∷ new) new)) j ≡ Some None
rest_stays true x cells new zero f e = e
rest_stays true x cells new (suc j) f e = f j e
rest_stays false x cells new j f e = f j e

pub stays_empty : (cells : List Cell) (p o j : ℕ) (c : Cell) (h : Held) → slice_get cells p ≡ Some c → lane_of h ≡ lane_of c.held → (property_in c.held ≡ None → property_in h ≡ None) → slice_get (properties o cells) j ≡ Some None → slice_get (properties o (held_at cells p h)) j ≡ Some None
stays_empty (x ∷ cells) zero o j c h e s f g =
    let q : c ≡ x = cc in
    let now : Cell = record x { held = h } in
    let lane : belongs_to_lane o Properties x ≡ belongs_to_lane o Properties now = ap (λ m. nat_eq x.owner o && same_lane m Properties) (sym (s ∙ ap (λ (y : Cell). lane_of y.held) q)) in
    let goes : property_in x.held ≡ None → property_in h ≡ None = subst (λ (y : Cell). property_in y.held ≡ None → property_in h ≡ None) q f in
    subst (λ b. slice_get (held_properties (cond b (now ∷ cells_of_lane o Properties cells) (cells_of_lane o Properties cells))) j ≡ Some None) lane (first_stays (belongs_to_lane o Properties x) x now (cells_of_lane o Properties cells) j goes g)
stays_empty (x ∷ cells) (suc p) o j c h e s f g = rest_stays (belongs_to_lane o Properties x) x (cells_of_lane o Properties cells) (cells_of_lane o Properties (held_at cells p h)) j (λ i. stays_empty cells p o i c h e s f) g
stays_empty [] p o j c h e s f g = absurd cc

more_empty : (cells : List Cell) (c : Cell) (o j : ℕ) → slice_get (properties o cells) j ≡ Some None → slice_get (properties o (cells ++ c ∷ [])) j ≡ Some None
more_empty cells c o j e =
    let all : properties o (cells ++ c ∷ []) ≡ properties o cells ++ held_properties (cells_of_lane o Properties (c ∷ [])) = ap held_properties (filter-append (belongs_to_lane o Properties) cells (c ∷ [])) ∙ map-append (λ (c : Cell). property_in c.held) (cells_of_lane o Properties cells) (cells_of_lane o Properties (c ∷ [])) in
    ap (λ ps. slice_get ps j) all ∙ (slice_get_left (properties o cells) (held_properties (cells_of_lane o Properties (c ∷ []))) j (slice_get_within (properties o cells) j None e) ∙ e)

-- a write, which empties a position or leaves what is empty so
pub gaps_held : (cells : List Cell) (p : ℕ) (c : Cell) (h : Held) → AreGaps cells → slice_get cells p ≡ Some c → lane_of h ≡ lane_of c.held → (property_in c.held ≡ None → property_in h ≡ None) → ((n : ℕ) → h ≡ Deleted n → (0 < n) × AreEmpty (properties c.owner (held_at cells p h)) c.position n) → AreGaps (held_at cells p h)
gaps_held cells p c h a e s f own = λ i d n ed q.
    elim (set_read cells p i (record c { held = h }) d (ap (λ xs. slice_get xs i) (set_held cells p c h e) ∙ ed)) [
      | inl r ↦
          let t = own n (ap (λ (x : Cell). x.held) r.1 ∙ q) in
          subst (λ (x : Cell). IsGap (held_at cells p h) x n) r.1 (record { some = t.0; empty = t.1 })
      | inr r ↦
          let g = a i d n r.1 q in
          record { some = g.some; empty = λ j b t. stays_empty cells p d.owner j c h e s f (g.empty j b t) }
    ]

-- one more cell, which is not emptied
pub gaps_more : (cells : List Cell) (c : Cell) → AreGaps cells → ((n : ℕ) → c.held ≡ Deleted n → ⊥) → AreGaps (cells ++ c ∷ [])
gaps_more cells c a none = λ i d n ed q.
    elim (slice_get_more cells c d i ed) [
      | inl r ↦
          let g = a i d n r.1 q in
          record { some = g.some; empty = λ j b t. more_empty cells c d.owner j (g.empty j b t) }
      | inr r ↦ absurd (none n (ap (λ (x : Cell). x.held) r.1 ∙ q))
    ]

-- the cell that is held anew
held_read : (cells : List Cell) (p : ℕ) (c : Cell) (h : Held) → slice_get cells p ≡ Some c → slice_get (held_at cells p h) p ≡ Some (record c { held = h })
held_read (x ∷ cells) zero c h e = let q : x ≡ c = cc in ap (λ (y : Cell). Some (record y { held = h })) q
held_read (x ∷ cells) (suc p) c h e = held_read cells p c h e
held_read [] p c h e = absurd cc

still_at : (cells : List Cell) (p o k : ℕ) (c : Cell) (h : Held) → IsCellAt (links cells) p o Properties k → slice_get cells p ≡ Some c → lane_of h ≡ Properties → lane_of c.held ≡ Properties → IsCellAt (links (held_at cells p h)) p o Properties k
still_at cells p o k c h at e s t = subst (λ xs. IsCellAt xs p o Properties k) (sym (links_held cells p c h e (s ∙ sym t))) at

-- a property that goes
pub gaps_gone : (cells : List Cell) (p o k : ℕ) (c : Cell) → AreLinked (links cells) → AreGaps cells → IsCellAt (links cells) p o Properties k → slice_get cells p ≡ Some c → AreGaps (held_at cells p (Deleted 1))
gaps_gone cells p o k c l a at e =
    let s = at.is (link_of c) (link_at cells p c e) in
    let new = held_at cells p (Deleted 1) in
    let now : Cell = record c { held = Deleted 1 } in
    let same : lane_of (Deleted 1) ≡ lane_of c.held = sym s.1 in
    let l' : AreLinked (links new) = subst AreLinked (sym (links_held cells p c (Deleted 1) e same)) l in
    let here : slice_get (cells_of_lane o Properties new) k ≡ Some now = owned_at new p o Properties k now l' (still_at cells p o k c (Deleted 1) at e refl s.1) (held_read cells p c (Deleted 1) e) in
    let gone : slice_get (properties o new) k ≡ Some None = slice_get-map (λ (c : Cell). property_in c.held) (cells_of_lane o Properties new) k ∙ ap (option_map (λ (c : Cell). property_in c.held)) here in
    gaps_held cells p c (Deleted 1) a e same (λ q. refl) (λ n q. let one : 1 ≡ n = ap empty_in q in (
      omega (arith, one),
      λ j b t. subst (λ m. slice_get (properties m new) j ≡ Some None) (sym s.0) (subst (λ i. slice_get (properties o new) i ≡ Some None) (omega (arith, one, b, t, s.2)) gone),
    ))

-- what is known from a place on
pub empty_here : (cells : List Cell) (hs : List Head) (i o k : ℕ) (c : Cell) → AreGaps cells → o < length hs → IsCellAt (links cells) i o Properties k → slice_get cells i ≡ Some c → AreEmpty (properties_of (objects cells 0 hs) o) k (empty_in c.held)
empty_here cells hs i o k c a b at e = go c.held refl
  where
    s : (c.owner ≡ o) × (lane_of c.held ≡ Properties) × (c.position ≡ k)
    s = at.is (link_of c) (link_at cells i c e)

    go : (h : Held) → c.held ≡ h → AreEmpty (properties_of (objects cells 0 hs) o) k (empty_in h)
    go (Slot v) q = λ j d t. absurd (omega arith)
    go (Property n v) q = λ j d t. absurd (omega arith)
    go (Element v) q = λ j d t. absurd (omega arith)
    go (Deleted n) q = λ j d t. ap (λ ps. slice_get ps j) (properties_are cells o hs b ∙ ap (λ m. properties m cells) (sym s.0)) ∙ (a i c n e q).empty j (omega (arith, s.2)) (omega (arith, s.2))

pub filled_here : (cells : List Cell) (hs : List Head) (i o k : ℕ) (c : Cell) → AreObjectHeads (links cells) hs → AreGaps cells → o < length hs → IsCellAt (links cells) i o Properties k → slice_get cells i ≡ Some c → empty_in c.held ≡ 0 → next_filled (properties_of (objects cells 0 hs) o) k ≡ Some (k + 1)
filled_here cells hs i o k c heads a b at e none =
    let ps = properties_of (objects cells 0 hs) o in
    let r = property_read cells hs i o k c heads b at e in
    let n : k + 1 ≡ suc k = omega arith in
    next_here ps k (slice_get_within ps k (property_in c.held) r) (ap (λ m. is_some (at_position ps m)) n ∙ (ap (λ x. is_some (present_property x)) r ∙ go c.held refl))
  where
    lane : lane_of c.held ≡ Properties
    lane = (at.is (link_of c) (link_at cells i c e)).1

    go : (h : Held) → c.held ≡ h → is_some (property_in h) ≡ true
    go (Property n v) q = refl
    go (Deleted n) q = absurd (omega (arith, (a i c n e q).some, none, ap empty_in q))
    go (Slot v) q = let w : Slots ≡ Properties = sym (ap lane_of q) ∙ lane in absurd cc
    go (Element v) q = let w : Elements ≡ Properties = sym (ap lane_of q) ∙ lane in absurd cc

pub position_inside : (cells : List Cell) (hs : List Head) (i o k : ℕ) → AreObjectHeads (links cells) hs → o < length hs → IsCellAt (links cells) i o Properties k → k < length (properties_of (objects cells 0 hs) o)
position_inside cells hs i o k heads b at =
    let w = slice_get_some cells i (inside cells i o Properties k at) in
    slice_get_within (properties_of (objects cells 0 hs) o) k (property_in w.0.held) (property_read cells hs i o k w.0 heads b at w.1)

pub gone_inside : (hs : List Head) (cs new : Filling Cell) (p o k : ℕ) (h : Held) → AreObjectHeads (links new.items) hs → o < length hs → IsCellAt (links cs.items) p o Properties k → lane_of h ≡ Properties → new ≡ record { items = held_at cs.items p h; limit = cs.limit } → k < length (properties_of (objects new.items 0 hs) o)
gone_inside hs cs new p o k h a b at s e =
    let w = slice_get_some cs.items p (inside cs.items p o Properties k at) in
    let own = cell_in cs.items p o Properties k w.0 at w.1 in
    position_inside new.items hs p o k a b (subst (λ (f : Filling Cell). IsCellAt (links f.items) p o Properties k) (sym e) (still_at cs.items p o k w.0 h at w.1 s own.1))

-- what is empty ends within the list
pub empty_within : (ps : List (Option (Span × Value))) (k n : ℕ) → k < length ps → AreEmpty ps k n → k + n ≤ length ps
empty_within ps k zero b a = omega arith
empty_within ps k (suc n) b a = let last = slice_get_within ps (k + n) None (a (k + n) (omega arith) (omega arith)) in omega (arith, last)

-- two runs side by side
pub both_empty : (ps : List (Option (Span × Value))) (k n a b : ℕ) → AreEmpty ps k a → AreEmpty ps (k + n) b → n ≤ a → n ≤ b → AreEmpty ps k (2 * n)
both_empty ps k n a b low high p q = λ j d t. elim (cases_lt j (k + n)) [
  | inl w ↦ low j d (omega (arith, w, p))
  | inr w ↦ high j w (omega (arith, t, q))
]
