-- The search by text, through a bucket from its last place down.
use Rattle.std.proofs.Common.{◌≡◌, ◌≢◌, ℕ, zero, suc, ◌-◌, ◌<◌, ◌≤◌, Bool, true, false, cond, ◌&&◌, List, [], ◌∷◌, Option, Some, None, length, filter, take, get_or, refl, sym, ap, ◌∙◌, subst, arith, ◌⊎◌, inl, inr, eqb-true, ltb-true, ltb-false, nat_eq, nat_lt, bytes_eq}
use Rattle.std.specs.Prelude.{slice_get, option_map}
use Rattle.std.proofs.lemmas.List.{length-map}
use Rattle.std.proofs.lemmas.Slice.Eq.{bytes_eq-Decides}
use Rattle.std.proofs.lemmas.Option.{slice_get-map, slice_get_past, slice_get_within}
use Rattle.abc_heap_values.specs.Filling.{Filling}
use Rattle.abc_heap_values.specs.declared.cell.Cell.{Cell}
use Rattle.abc_heap_values.specs.declared.values.Span.{Span}
use Rattle.abc_heap_values.specs.declared.values.Value.{Value}
use Rattle.abc_heap_values.specs.declared.cell.Held.{Held}
use Rattle.abc_heap_values.specs.declared.cell.Held.TheVariants.{Slot, Property, Deleted, Element}
use Rattle.abc_heap_values.specs.declared.cell.Lane.TheVariants.{Properties}
use Rattle.abc_heap_values.specs.Lanes.{belongs_to_lane, lane_of, same_lane, cells_of_lane, property_in}
use Rattle.abc_heap_values.specs.Links.{Link, link_of, links, IsCellAt}
use Rattle.abc_heap_values.proofs.Parts.{filter_at}
use Rattle.abc_heap_values.proofs.Walks.{link_at}
use Rattle.abc_heap_values.proofs.Owned.{ranked}
use Rattle.abc_heap_store.specs.declared.heads.Head.{Head}
use Rattle.abc_heap_store.specs.declared.buckets.Buckets.{Buckets}
use Rattle.abc_heap_store.specs.Buckets.{bucket, bucket_of, buckets_of, last_in, IsIndexed}
use Rattle.abc_heap_store.specs.Heap.{properties_of}
use Rattle.abc_heap_store.specs.Texts.{text_in}
use Rattle.abc_heap_store.specs.Properties.{is_property_named, place_below, place_named}
use Rattle.abc_heap_store.specs.View.{objects, AreObjectHeads}
use Rattle.abc_heap_store.specs.Spots.{IsSpot}
use Rattle.abc_heap_store.proofs.Lasts.{chosen, skipped, decide, last_le, last_hit, last_covers}
use Rattle.abc_heap_store.proofs.Flat.{properties_are, property_read}
use Rattle.abc_heap_store.proofs.Indexed.{key_at, buckets_long}

-- a cell holds a property of this object and this text
abbrev pub fits : (Span → List ℕ) → List ℕ → ℕ → Cell → Bool
fits f t o c = nat_eq c.owner o && is_property_named f t (Some (property_in c.held))

either : (t : Bool) → (t ≡ true) ⊎ (t ≡ false)
either true = inl refl
either false = inr refl

both : (x y : Bool) → x && y ≡ true → (x ≡ true) × (y ≡ true)
both true true e = (refl, refl)
both true false e = absurd cc
both false y e = absurd cc

both_are : (x y : Bool) → x ≡ true → y ≡ true → x && y ≡ true
both_are true true p q = refl
both_are true false p q = absurd cc
both_are false y p q = absurd cc

clash : {X : Type 0} → true ≡ false → X
clash e = absurd cc

pub found_named : (f : Span → List ℕ) (t : List ℕ) (ps : List (Option (Span × Value))) (k n : ℕ) → place_below f t ps n ≡ Some k → is_property_named f t (slice_get ps k) ≡ true
found_named f t ps k zero e = absurd cc
found_named f t ps k (suc n) e = elim (either (is_property_named f t (slice_get ps n))) [
  | inl q ↦ let s : n ≡ k = some_same n k (sym (chosen (is_property_named f t (slice_get ps n)) (Some n) (place_below f t ps n) q) ∙ e) in ap (λ m. is_property_named f t (slice_get ps m)) (sym s) ∙ q
  | inr q ↦ found_named f t ps k n (sym (skipped (is_property_named f t (slice_get ps n)) (Some n) (place_below f t ps n) q) ∙ e)
]
  where
    some_same : (n k : ℕ) → Some n ≡ Some k → n ≡ k
    some_same n k h = cc

-- ---- places and positions

filter_yes : {X : Type 0} (p : X → Bool) (x : X) (xs : List X) → p x ≡ true → filter p (x ∷ xs) ≡ x ∷ filter p xs
filter_yes p x xs e = ap (λ b. cond b (x ∷ filter p xs) (filter p xs)) e

filter_no : {X : Type 0} (p : X → Bool) (x : X) (xs : List X) → p x ≡ false → filter p (x ∷ xs) ≡ filter p xs
filter_no p x xs e = ap (λ b. cond b (x ∷ filter p xs) (filter p xs)) e

-- where an item of a part of a list stands in the whole
record IsFrom (X : Type 0) (p : X → Bool) (xs : List X) (j : ℕ) : Type 0 where
  place : ℕ
  item : X
  at : slice_get xs place ≡ Some item
  is : p item ≡ true
  rank : length (filter p (take place xs)) ≡ j

further : {X : Type 0} (p : X → Bool) (x : X) (xs : List X) (j k : ℕ) → IsFrom X p xs j → ((ys : List X) → length (filter p ys) ≡ j → length (filter p (x ∷ ys)) ≡ k) → IsFrom X p (x ∷ xs) k
further p x xs j k r f = record { place = suc r.place; item = r.item; at = r.at; is = r.is; rank = f (take r.place xs) r.rank }

from : {X : Type 0} (p : X → Bool) (xs : List X) (j : ℕ) → j < length (filter p xs) → IsFrom X p xs j
from p [] j b = absurd (omega arith)
from p (x ∷ xs) zero b = elim (either (p x)) [
  | inl e ↦ record { place = 0; item = x; at = refl; is = e; rank = refl }
  | inr e ↦ further p x xs 0 0 (from p xs 0 (omega (arith, ap length (filter_no p x xs e)))) (λ ys r. ap length (filter_no p x ys e) ∙ r)
]
from p (x ∷ xs) (suc j) b = elim (either (p x)) [
  | inl e ↦ further p x xs j (suc j) (from p xs j (omega (arith, ap length (filter_yes p x xs e)))) (λ ys r. ap length (filter_yes p x ys e) ∙ ap suc r)
  | inr e ↦ further p x xs (suc j) (suc j) (from p xs (suc j) (omega (arith, ap length (filter_no p x xs e)))) (λ ys r. ap length (filter_no p x ys e) ∙ r)
]

rank_grows : {X : Type 0} (p : X → Bool) (xs : List X) (i n : ℕ) → i ≤ n → length (filter p (take i xs)) ≤ length (filter p (take n xs))
rank_grows p xs zero n b = omega arith
rank_grows p xs (suc i) zero b = absurd (omega arith)
rank_grows p [] (suc i) (suc n) b = omega arith
rank_grows p (x ∷ xs) (suc i) (suc n) b = elim (either (p x)) [
  | inl e ↦ omega (arith, ap length (filter_yes p x (take i xs) e), ap length (filter_yes p x (take n xs) e), rank_grows p xs i n (omega arith))
  | inr e ↦ omega (arith, ap length (filter_no p x (take i xs) e), ap length (filter_no p x (take n xs) e), rank_grows p xs i n (omega arith))
]

-- ---- the search in the list of properties

pub below_none : (f : Span → List ℕ) (t : List ℕ) (ps : List (Option (Span × Value))) (n : ℕ) → ((j : ℕ) → is_property_named f t (slice_get ps j) ≡ true → ⊥) → place_below f t ps n ≡ None
below_none f t ps zero h = refl
below_none f t ps (suc n) h = elim (either (is_property_named f t (slice_get ps n))) [
  | inl e ↦ absurd (h n e)
  | inr e ↦ skipped (is_property_named f t (slice_get ps n)) (Some n) (place_below f t ps n) e ∙ below_none f t ps n h
]

below_last : (f : Span → List ℕ) (t : List ℕ) (ps : List (Option (Span × Value))) (k n : ℕ) → k < n → is_property_named f t (slice_get ps k) ≡ true → ((j : ℕ) → is_property_named f t (slice_get ps j) ≡ true → j ≤ k) → place_below f t ps n ≡ Some k
below_last f t ps k zero b e h = absurd (omega arith)
below_last f t ps k (suc n) b e h = elim (either (is_property_named f t (slice_get ps n))) [
  | inl q ↦ let s : n ≡ k = same n k (h n q) b in chosen (is_property_named f t (slice_get ps n)) (Some n) (place_below f t ps n) q ∙ ap Some s
  | inr q ↦ skipped (is_property_named f t (slice_get ps n)) (Some n) (place_below f t ps n) q ∙ below_last f t ps k n (less n b (λ (s : k ≡ n). clash (sym e ∙ (ap (λ m. is_property_named f t (slice_get ps m)) s ∙ q)))) e h
]
  where
    same : (n k : ℕ) → n ≤ k → k < suc n → n ≡ k
    same n k p q = omega arith

    less : (n : ℕ) → k < suc n → k ≢ n → k < n
    less n p d = omega arith

-- a property of the text stands in a cell
record IsNamedAt (cells : List Cell) (o : ℕ) (f : Span → List ℕ) (t : List ℕ) (j : ℕ) : Type 0 where
  place : ℕ
  cell : Cell
  at : slice_get cells place ≡ Some cell
  fit : fits f t o cell ≡ true
  rank : length (cells_of_lane o Properties (take place cells)) ≡ j

named_at : (cells : List Cell) (heads : List Head) (o : ℕ) (f : Span → List ℕ) (t : List ℕ) (j : ℕ) → o < length heads → is_property_named f t (slice_get (properties_of (objects cells 0 heads) o) j) ≡ true → IsNamedAt cells o f t j
named_at cells heads o f t j b e =
    let ps = properties_of (objects cells 0 heads) o in
    let long : length ps ≡ length (cells_of_lane o Properties cells) = ap length (properties_are cells o heads b) ∙ length-map (cells_of_lane o Properties cells) (λ (c : Cell). property_in c.held) in
    let there : j < length ps = is_there ps j e in
    let r = from (belongs_to_lane o Properties) cells j (omega (arith, there, long)) in
    let own : slice_get (cells_of_lane o Properties cells) j ≡ Some r.item = subst (λ n. slice_get (cells_of_lane o Properties cells) n ≡ Some r.item) r.rank (filter_at (belongs_to_lane o Properties) cells r.place r.item r.at r.is) in
    let read : slice_get ps j ≡ Some (property_in r.item.held) = ap (λ xs. slice_get xs j) (properties_are cells o heads b) ∙ (slice_get-map (λ (c : Cell). property_in c.held) (cells_of_lane o Properties cells) j ∙ ap (option_map (λ (c : Cell). property_in c.held)) own) in
    record {
      place = r.place;
      cell = r.item;
      at = r.at;
      fit = both_are (nat_eq r.item.owner o) (is_property_named f t (Some (property_in r.item.held))) (both (nat_eq r.item.owner o) (same_lane (lane_of r.item.held) Properties) r.is).0 (ap (is_property_named f t) (sym read) ∙ e);
      rank = r.rank;
    }
  where
    past : (ps : List (Option (Span × Value))) (j : ℕ) → length ps ≤ j → is_property_named f t (slice_get ps j) ≡ true → ⊥
    past ps j l e = clash (sym e ∙ ap (is_property_named f t) (slice_get_past ps j l))

    is_there : (ps : List (Option (Span × Value))) (j : ℕ) → is_property_named f t (slice_get ps j) ≡ true → j < length ps
    is_there ps j e = elim (either (nat_lt j (length ps))) [
      | inl l ↦ ltb-true j (length ps) l
      | inr l ↦ absurd (past ps j (ltb-false j (length ps) l) e)
    ]

-- ---- the search in a bucket

property_lane : (h : Held) (f : Span → List ℕ) (t : List ℕ) → is_property_named f t (Some (property_in h)) ≡ true → lane_of h ≡ Properties
property_lane (Slot v) f t e = clash (sym e)
property_lane (Property n v) f t e = refl
property_lane (Deleted n) f t e = clash (sym e)
property_lane (Element v) f t e = clash (sym e)

pub named_bucket : (n o : ℕ) (f : Span → List ℕ) (t : List ℕ) (p : Option (Span × Value)) → is_property_named f t (Some p) ≡ true → bucket_of n f o p ≡ Some (bucket n o t)
named_bucket n o f t None e = clash (sym e)
named_bucket n o f t (Some p) e = ap (λ x. Some (bucket n o x)) ((bytes_eq-Decides (f p.0) t).0 e)

-- what fits is in the bucket
pub fit_bucket : (n o : ℕ) (f : Span → List ℕ) (t : List ℕ) (cells : List Cell) (i : ℕ) (c : Cell) → slice_get cells i ≡ Some c → fits f t o c ≡ true → get_or (buckets_of n f cells) i None ≡ Some (bucket n o t)
fit_bucket n o f t cells i c e h =
    let s = both (nat_eq c.owner o) (is_property_named f t (Some (property_in c.held))) h in
    key_at n f cells i c e ∙ (ap (λ m. bucket_of n f m (property_in c.held)) (eqb-true c.owner o s.0) ∙ named_bucket n o f t (property_in c.held) s.1)

-- what fits is below the place that is searched next, and that is in the bucket
pub record IsSearched (cells : List Cell) (n o : ℕ) (f : Span → List ℕ) (t : List ℕ) (left : ℕ) : Type 0 where
  pub own : 0 < left → get_or (buckets_of n f cells) (left - 1) None ≡ Some (bucket n o t)
  pub inside : left ≤ length cells
  pub below : (i : ℕ) (c : Cell) → slice_get cells i ≡ Some c → fits f t o c ≡ true → i < left

last_searched : (cells : List Cell) (n o m : ℕ) (f : Span → List ℕ) (t : List ℕ) (left : ℕ) → left ≡ last_in (buckets_of n f cells) (bucket n o t) m → m ≤ length cells → ((i : ℕ) (c : Cell) → slice_get cells i ≡ Some c → fits f t o c ≡ true → i < m) → IsSearched cells n o f t left
last_searched cells n o m f t left e b below =
    let ks = buckets_of n f cells in
    let d = bucket n o t in
    record {
      own = λ h. ap (λ k. get_or ks (k - 1) None) e ∙ last_hit ks d m (omega (arith, e));
      inside = omega (arith, e, last_le ks d m);
      below = λ i c at h. let r = last_covers ks d m i (below i c at h) (fit_bucket n o f t cells i c at h) in omega (arith, e, r);
    }

pub search_start : (fixed made : List ℕ) (strings : List (List ℕ)) (cs : Filling Cell) (b : Buckets) (o : ℕ) (t : List ℕ) (d left : ℕ) → IsIndexed fixed made strings cs b → d ≡ bucket (length b.lasts.items) o t → d < length b.lasts.items → left ≡ get_or b.lasts.items d 0 → IsSearched cs.items (length b.lasts.items) o (text_in fixed made strings) t left
search_start fixed made strings cs b o t d left x key inside e =
    let n = length b.lasts.items in
    let f = text_in fixed made strings in
    last_searched cs.items n o (length (buckets_of n f cs.items)) f t left (e ∙ (x.buckets.lasts d inside ∙ ap (λ k. last_in (buckets_of n f cs.items) k (length (buckets_of n f cs.items))) key)) (omega (arith, buckets_long n f cs.items)) (λ i c at h. let w = slice_get_within cs.items i c at in omega (arith, w, buckets_long n f cs.items))

one_cell : (cells : List Cell) (i j : ℕ) (d c : Cell) → i ≡ j → slice_get cells i ≡ Some d → slice_get cells j ≡ Some c → d ≡ c
one_cell cells i j d c q ed ec = let r : slice_get cells i ≡ slice_get cells j = ap (slice_get cells) q in cc

fewer : (i left : ℕ) → i < left → (i ≡ left - 1 → ⊥) → i < left - 1
fewer i left p q = elim (decide i (left - 1)) [ inl e ↦ absurd (q e) | inr e ↦ omega arith ]

below_on : (cells : List Cell) (o : ℕ) (f : Span → List ℕ) (t : List ℕ) (left : ℕ) (c : Cell) → slice_get cells (left - 1) ≡ Some c → fits f t o c ≡ false → ((i : ℕ) (d : Cell) → slice_get cells i ≡ Some d → fits f t o d ≡ true → i < left) → (i : ℕ) (d : Cell) → slice_get cells i ≡ Some d → fits f t o d ≡ true → i < left - 1
below_on cells o f t left c at other below i d here h = fewer i left (below i d here h) (λ (q : i ≡ left - 1). clash (sym h ∙ (ap (fits f t o) (one_cell cells i (left - 1) d c q here at) ∙ other)))

pub search_on : (fixed made : List ℕ) (strings : List (List ℕ)) (cs : Filling Cell) (b : Buckets) (o : ℕ) (t : List ℕ) (left next : ℕ) (c : Cell) → IsIndexed fixed made strings cs b → IsSearched cs.items (length b.lasts.items) o (text_in fixed made strings) t left → 0 < left → slice_get cs.items (left - 1) ≡ Some c → fits (text_in fixed made strings) t o c ≡ false → next ≡ get_or b.befores.items (left - 1) 0 → IsSearched cs.items (length b.lasts.items) o (text_in fixed made strings) t next
search_on fixed made strings cs b o t left next c x s more at other e =
    let n = length b.lasts.items in
    let f = text_in fixed made strings in
    let here : next ≡ last_in (buckets_of n f cs.items) (bucket n o t) (left - 1) = e ∙ x.buckets.befores (left - 1) (bucket n o t) (s.own more) in
    let inside : left - 1 ≤ length cs.items = omega (arith, s.inside) in
    last_searched cs.items n o (left - 1) f t next here inside (below_on cs.items o f t left c at other s.below)

pub search_none : (cells : List Cell) (heads : List Head) (n o : ℕ) (f : Span → List ℕ) (t : List ℕ) (left : ℕ) → o < length heads → IsSearched cells n o f t left → left ≡ 0 → place_named f t (properties_of (objects cells 0 heads) o) ≡ None
search_none cells heads n o f t left b s e =
    let ps = properties_of (objects cells 0 heads) o in
    below_none f t ps (length ps) (λ j h. let r = named_at cells heads o f t j b h in let l = s.below r.place r.cell r.at r.fit in absurd (omega (arith, l, e)))

pub search_found : (cells : List Cell) (heads : List Head) (n o : ℕ) (f : Span → List ℕ) (t : List ℕ) (left : ℕ) (c : Cell) → AreObjectHeads (links cells) heads → o < length heads → IsSearched cells n o f t left → 0 < left → slice_get cells (left - 1) ≡ Some c → fits f t o c ≡ true → IsSpot f t cells heads o (record { place = left - 1; position = c.position })
search_found cells heads n o f t left c a b s more e h =
    let ps = properties_of (objects cells 0 heads) o in
    let w = both (nat_eq c.owner o) (is_property_named f t (Some (property_in c.held))) h in
    let at = at_place cells (left - 1) o f t c e (eqb-true c.owner o w.0) w.1 in
    let read = property_read cells heads (left - 1) o c.position c a b at e in
    let named : is_property_named f t (slice_get ps c.position) ≡ true = ap (is_property_named f t) read ∙ w.1 in
    let rank = ranked cells (left - 1) o Properties c.position c a.linked at e in
    record {
      at = at;
      is = below_last f t ps c.position (length ps) (slice_get_within ps c.position _ read) named (λ j g.
          let r = named_at cells heads o f t j b g in
          let l = s.below r.place r.cell r.at r.fit in
          let m = rank_grows (belongs_to_lane o Properties) cells r.place (left - 1) (omega (arith, l)) in
          omega (arith, m, r.rank, rank));
    }
  where
    at_place : (cells : List Cell) (place o : ℕ) (f : Span → List ℕ) (t : List ℕ) (c : Cell) → slice_get cells place ≡ Some c → c.owner ≡ o → is_property_named f t (Some (property_in c.held)) ≡ true → IsCellAt (links cells) place o Properties c.position
    at_place cells place o f t c e own named = record {
      inside = let w = slice_get_within cells place c e in omega (arith, w, length-map cells link_of);
      is = λ x ex. let q : link_of c ≡ x = same_link x (link_at cells place c e) ex in (ap (λ (y : Link). y.owner) (sym q) ∙ own, ap (λ (y : Link). y.lane) (sym q) ∙ property_lane c.held f t named, ap (λ (y : Link). y.position) (sym q));
    }
      where
        same_link : (x : Link) → slice_get (links cells) place ≡ Some (link_of c) → slice_get (links cells) place ≡ Some x → link_of c ≡ x
        same_link x p q = cc

-- the search falls
pub search_falls : (fixed made : List ℕ) (strings : List (List ℕ)) (cs : Filling Cell) (b : Buckets) (o : ℕ) (t : List ℕ) (left next : ℕ) → IsIndexed fixed made strings cs b → IsSearched cs.items (length b.lasts.items) o (text_in fixed made strings) t left → 0 < left → next ≡ get_or b.befores.items (left - 1) 0 → next < left
search_falls fixed made strings cs b o t left next x s more e =
    let n = length b.lasts.items in
    let f = text_in fixed made strings in
    let here = x.buckets.befores (left - 1) (bucket n o t) (s.own more) in
    omega (arith, e, here, last_le (buckets_of n f cs.items) (bucket n o t) (left - 1))

pub search_within : (fixed made : List ℕ) (strings : List (List ℕ)) (cs : Filling Cell) (b : Buckets) (o : ℕ) (t : List ℕ) (left : ℕ) → IsIndexed fixed made strings cs b → IsSearched cs.items (length b.lasts.items) o (text_in fixed made strings) t left → 0 < left → left - 1 < length b.befores.items
search_within fixed made strings cs b o t left x s more = x.buckets.room (left - 1) (bucket (length b.lasts.items) o t) (s.own more)

-- the same name has the same text
pub same_text : (fixed made : List ℕ) (strings : List (List ℕ)) (held name : Span) (t : List ℕ) → held ≡ name → t ≡ text_in fixed made strings name → true ≡ bytes_eq (text_in fixed made strings held) t
same_text fixed made strings held name t e is = sym ((bytes_eq-Decides (text_in fixed made strings held) t).1 (ap (text_in fixed made strings) e ∙ sym is))

-- an object without properties
pub search_empty : (f : Span → List ℕ) (t : List ℕ) (ps : List (Option (Span × Value))) → length ps ≡ 0 → place_named f t ps ≡ None
search_empty f t ps e = ap (place_below f t ps) e
