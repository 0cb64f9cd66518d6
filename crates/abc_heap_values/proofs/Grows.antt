-- One more cell.
use Rattle.std.proofs.Common.{◌≡◌, ℕ, zero, suc, ◌+◌, ◌-◌, ◌<◌, ◌≤◌, Bool, true, false, cond, List, [], ◌∷◌, ◌++◌, Some, length, take, set, refl, sym, ap, ◌∙◌, subst, arith, inl, inr, length-append, eq-eqb}
use Rattle.std.specs.Prelude.{slice_get, filter, nat_eq, ◌&&◌}
use Rattle.std.proofs.lemmas.List.Elements.{filter-append}
use Rattle.std.proofs.lemmas.List.{length-map, map-append, take-append-le}
use Rattle.abc_heap_values.specs.declared.cell.Cell.{Cell}
use Rattle.abc_heap_values.specs.declared.cell.Held.{Held}
use Rattle.abc_heap_values.specs.declared.cell.Lane.{Lane}
use Rattle.abc_heap_values.specs.declared.cell.Lane.TheVariants.{Slots, Properties, Elements}
use Rattle.abc_heap_values.specs.declared.chain.Chain.{Chain}
use Rattle.abc_heap_values.specs.Lanes.{lane_of, same_lane}
use Rattle.abc_heap_values.specs.Links.{Link, link_of, links, is_in_lane, count, IsCellAt, IsCellBelow, IsLinked, AreLinked, IsChain, IsUnder, held_at}
use Rattle.abc_heap_values.proofs.Parts.{slice_get_more, slice_get_left, slice_get_seam}
use Rattle.abc_heap_values.proofs.Walks.{below_from}

pub same_lane_self : (l : Lane) → same_lane l l ≡ true
same_lane_self Slots = refl
same_lane_self Properties = refl
same_lane_self Elements = refl

pub is_in_own : (x : Link) (o : ℕ) (l : Lane) → x.owner ≡ o → x.lane ≡ l → is_in_lane o l x ≡ true
is_in_own x o l e f = ap (λ n. nat_eq n o && same_lane x.lane l) e ∙ (ap (λ b. b && same_lane x.lane l) (eq-eqb o o refl) ∙ (ap (λ m. same_lane m l) f ∙ same_lane_self l))

filter_le : {X : Type 0} (p : X → Bool) (xs : List X) → length (filter p xs) ≤ length xs
filter_le {X = X} p [] = omega arith
filter_le {X = X} p (x ∷ xs) = step (p x) x (filter p xs) (length xs) (filter_le p xs)
  where
    step : (b : Bool) (y : X) (f : List X) (n : ℕ) → length f ≤ n → length (cond b (y ∷ f) f) ≤ suc n
    step true y f n h = omega arith
    step false y f n h = omega arith

pub count_le : (o : ℕ) (l : Lane) (xs : List Link) → count o l xs ≤ length xs
count_le o l xs = filter_le (is_in_lane o l) xs

pub count_in : (o : ℕ) (l : Lane) (xs : List Link) (x : Link) → is_in_lane o l x ≡ true → count o l (xs ++ x ∷ []) ≡ count o l xs + 1
count_in o l xs x t = ap length (filter-append (is_in_lane o l) xs (x ∷ [])) ∙ (length-append (filter (is_in_lane o l) xs) (filter (is_in_lane o l) (x ∷ [])) ∙ ap (λ b. count o l xs + length (cond b (x ∷ []) [])) t)

pub count_out : (o : ℕ) (l : Lane) (xs : List Link) (x : Link) → is_in_lane o l x ≡ false → count o l (xs ++ x ∷ []) ≡ count o l xs
count_out o l xs x t = ap length (filter-append (is_in_lane o l) xs (x ∷ [])) ∙ (length-append (filter (is_in_lane o l) xs) (filter (is_in_lane o l) (x ∷ [])) ∙ (ap (λ b. count o l xs + length (cond b (x ∷ []) [])) t ∙ omega arith))

pub at_more : (xs ys : List Link) (i o : ℕ) (l : Lane) (k : ℕ) → IsCellAt xs i o l k → IsCellAt (xs ++ ys) i o l k
at_more xs ys i o l k a = record {
  inside = omega (arith, a.inside, length-append xs ys);
  is = λ x e. a.is x (sym (slice_get_left xs ys i a.inside) ∙ e);
}

pub linked_more : (xs : List Link) (x : Link) → AreLinked xs → IsLinked xs x → AreLinked (xs ++ x ∷ [])
linked_more xs x l n = λ i y e. elim (slice_get_more xs x y i e) [
  | inl h ↦ let b : i ≤ length xs = omega (arith, h.0) in subst (λ t. IsLinked t y) (sym (take-append-le i xs (x ∷ []) b)) (l i y h.1)
  | inr h ↦
      let w : take i (xs ++ x ∷ []) ≡ xs = ap (λ k. take k (xs ++ x ∷ [])) h.0 ∙ whole xs x in
      subst (λ t. IsLinked t y) (sym w) (subst (λ z. IsLinked xs z) h.1 n)
]
  where
    whole : (xs : List Link) (x : Link) → take (length xs) (xs ++ x ∷ []) ≡ xs
    whole [] x = refl
    whole (a ∷ xs) x = ap (λ r. a ∷ r) (whole xs x)

pub chain_more : (xs : List Link) (x : Link) (o : ℕ) (l : Lane) (c d : Chain) → IsChain xs o l c → x.owner ≡ o → x.lane ≡ l → x.position ≡ c.count → d.last ≡ length xs → d.count ≡ c.count + 1 → IsChain (xs ++ x ∷ []) o l d
chain_more xs x o l c d h e f p a n = record {
  counted = n ∙ (ap (λ m. m + 1) h.counted ∙ sym (count_in o l xs x (is_in_own x o l e f)));
  last = λ q. record {
    inside = omega (arith, a, length-append xs (x ∷ []));
    is = λ y ey.
        let s : slice_get (xs ++ x ∷ []) (length xs) ≡ Some y = sym (ap (slice_get (xs ++ x ∷ [])) a) ∙ ey in
        let t : slice_get (xs ++ x ∷ []) (length xs) ≡ Some x = slice_get_seam xs x in
        let same : x ≡ y = cc in
        (sym (ap (λ (z : Link). z.owner) same) ∙ e, sym (ap (λ (z : Link). z.lane) same) ∙ f, omega (arith, ap (λ (z : Link). z.position) same));
  };
}

pub chain_other : (xs : List Link) (x : Link) (o : ℕ) (l : Lane) (c : Chain) → is_in_lane o l x ≡ false → IsChain xs o l c → IsChain (xs ++ x ∷ []) o l c
chain_other xs x o l c f h = record {
  counted = h.counted ∙ sym (count_out o l xs x f);
  last = λ q. at_more xs (x ∷ []) c.last o l (c.count - 1) (h.last q);
}

pub set_held : (cells : List Cell) (i : ℕ) (c : Cell) (h : Held) → slice_get cells i ≡ Some c → set cells i (record c { held = h }) ≡ held_at cells i h
set_held (x ∷ cells) zero c h e = let q : x ≡ c = cc in ap (λ (z : Cell). (record z { held = h }) ∷ cells) (sym q)
set_held (x ∷ cells) (suc i) c h e = ap (λ r. x ∷ r) (set_held cells i c h e)
set_held [] i c h e = absurd cc

-- the links of a next cell
pub next_linked : (xs : List Link) (o : ℕ) (l : Lane) (c : Chain) (x : Link) → IsChain xs o l c → x.owner ≡ o → x.lane ≡ l → x.position ≡ c.count → x.before ≡ c.last → (0 < c.count → IsCellBelow xs x.jump o l c.count) → IsLinked xs x
next_linked xs o l c x h e f p b j =
    let C = λ (n : ℕ) (m : Lane). (x.position ≡ count n m xs) × (0 < x.position → IsCellAt xs x.before n m (x.position - 1)) × (0 < x.position → IsCellBelow xs x.jump n m x.position) in
    let all : C o l = (p ∙ h.counted, λ q. subst (λ k. IsCellAt xs x.before o l (k - 1)) (sym p) (subst (λ k. IsCellAt xs k o l (c.count - 1)) (sym b) (h.last (omega arith))), λ q. subst (λ k. IsCellBelow xs x.jump o l k) (sym p) (j (omega arith))) in
    let own : C x.owner x.lane = subst (λ n. C n x.lane) (sym e) (subst (λ m. C o m) (sym f) all) in
    record { counted = own.0; before = own.1; jump = own.2 }

pub links_more : (cells : List Cell) (c : Cell) → links (cells ++ c ∷ []) ≡ links cells ++ link_of c ∷ []
links_more cells c = map-append link_of cells (c ∷ [])

-- the cells after an append, however they are written
pub append_linked : (cells new : List Cell) (c : Cell) → new ≡ cells ++ c ∷ [] → AreLinked (links cells) → IsLinked (links cells) (link_of c) → AreLinked (links new)
append_linked cells new c e l n = subst AreLinked (sym (ap links e ∙ links_more cells c)) (linked_more (links cells) (link_of c) l n)

pub append_chain : (cells new : List Cell) (c : Cell) (o : ℕ) (h : Held) (old next : Chain) → new ≡ cells ++ c ∷ [] → IsChain (links cells) o (lane_of h) old → c.owner ≡ o → c.held ≡ h → c.position ≡ old.count → next.last ≡ length cells → next.count ≡ old.count + 1 → IsChain (links new) o (lane_of h) next
append_chain cells new c o h old next e k a b p q n = subst (λ xs. IsChain xs o (lane_of h) next) (sym (ap links e ∙ links_more cells c)) (chain_more (links cells) (link_of c) o (lane_of h) old next k a (ap lane_of b) p (omega (arith, q, length-map cells link_of)) n)

pub next_jump : (xs : List Link) (o : ℕ) (l : Lane) (c : Chain) (j : ℕ) → IsChain xs o l c → (0 < c.count → IsUnder xs c.last j) → 0 < c.count → IsCellBelow xs j o l c.count
next_jump xs o l c j h u p = below_from xs c.last j o l (c.count - 1) c.count (h.last p) (u p) (omega arith)
