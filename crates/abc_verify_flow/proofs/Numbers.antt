-- The states of places by their numbers.
use Rattle.std.proofs.Common.{◌≡◌, ◌≢◌, ℕ, zero, suc, ◌+◌, ◌-◌, ◌≤◌, ◌<◌, List, [], ◌∷◌, ◌++◌, Option, Some, None, length, set, replicate, refl, sym, ap, ◌∙◌, subst, arith, ◌⊎◌, inl, inr, length-append}
use Rattle.std.specs.Prelude.{slice_get}
use Rattle.std.proofs.lemmas.Bool.{cases_eq}
use Rattle.std.proofs.lemmas.List.{map-set}
use Rattle.std.proofs.lemmas.Option.{slice_get_past}
use Rattle.std.proofs.Math.ListN.{length-set}
use Rattle.abc_verify_typing.proofs.Lists.{slice_get-last}
use Rattle.abc_verify_flow.specs.Kept.{ArePlaceNumbers, known_at, known_of_number}

pub numbered_none : {X : Type 0} (known : List X) (n : ℕ) → (1 ≤ n → ⊥) → known_of_number known n ≡ None
numbered_none known zero h = refl
numbered_none known (suc n) h = absurd (h (omega arith))

pub numbered_next : {X : Type 0} (known : List X) (n i : ℕ) → 1 ≤ n → n - 1 ≡ i → known_of_number known n ≡ slice_get known i
numbered_next known zero i h e = absurd (omega arith)
numbered_next known (suc n) i h e = let q : n ≡ i = omega arith in ap (slice_get known) q

-- ---- places

get_blank : (n i k : ℕ) → slice_get (replicate n 0) i ≡ Some (suc k) → ⊥
get_blank zero i k e = cc
get_blank (suc n) zero k e = let q : 0 ≡ suc k = cc in omega arith
get_blank (suc n) (suc i) k e = get_blank n i k e

pub blank_numbers : (n m : ℕ) → ArePlaceNumbers (replicate n 0) m
blank_numbers n m = record { inside = λ i k e. absurd (get_blank n i k e); apart = λ i j k e f. absurd (get_blank n i k e) }

pub blank_known : {X : Type 0} (n : ℕ) (ks : List X) → known_at (replicate n 0) ks ≡ replicate n None
blank_known zero ks = refl
blank_known {X} (suc n) ks = ap (λ (xs : List (Option X)). None ∷ xs) (blank_known n ks)

pub no_numbers : (m : ℕ) → ArePlaceNumbers [] m
no_numbers m = record { inside = λ i k e. absurd cc; apart = λ i j k e f. absurd cc }

-- ---- a value takes the place of another, or comes at the end

got_more : {X : Type 0} (ks : List X) (k : X) (n : ℕ) → n < length ks → slice_get (ks ++ k ∷ []) n ≡ slice_get ks n
got_more [] k n h = absurd (omega arith)
got_more (a ∷ ks) k zero h = refl
got_more (a ∷ ks) k (suc n) h = got_more ks k n (omega arith)

pub got_other : {X : Type 0} (ks : List X) (i j : ℕ) (k : X) → i ≢ j → slice_get (set ks i k) j ≡ slice_get ks j
got_other [] i j k ne = refl
got_other (a ∷ ks) zero zero k ne = absurd (ne refl)
got_other (a ∷ ks) zero (suc j) k ne = refl
got_other (a ∷ ks) (suc i) zero k ne = refl
got_other (a ∷ ks) (suc i) (suc j) k ne = got_other ks i j k (λ e. ne (ap suc e))

pub got_same : {X : Type 0} (ks : List X) (i : ℕ) (k : X) → i < length ks → slice_get (set ks i k) i ≡ Some k
got_same [] i k h = absurd (omega arith)
got_same (a ∷ ks) zero k h = refl
got_same (a ∷ ks) (suc i) k h = got_same ks i k (omega arith)

-- ---- a place gets a state of its own

pub new_numbers : (ns : List ℕ) (c i m : ℕ) → ArePlaceNumbers ns c → i < length ns → m ≡ c + 1 → ArePlaceNumbers (set ns i m) (c + 1)
new_numbers ns c i m h lt q = subst (λ (k : ℕ). ArePlaceNumbers (set ns i k) (c + 1)) (let z : suc c ≡ m = omega arith in z) record { inside = inside; apart = apart }
  where
    old : (j n : ℕ) → slice_get (set ns i (suc c)) j ≡ Some (suc n) → (slice_get ns j ≡ Some (suc n)) ⊎ ((n ≡ c) × (i ≡ j))
    old j n f = elim (cases_eq i j) [
      | inl a ↦ (
          let here : slice_get (set ns i (suc c)) j ≡ Some (suc c) = ap (slice_get (set ns i (suc c))) (sym a) ∙ got_same ns i (suc c) lt in
          let z : Some (suc c) ≡ Some (suc n) = sym here ∙ f in
          let w : suc c ≡ suc n = cc in
          inr (omega (arith, w), a)
          )
      | inr a ↦ inl (sym (got_other ns i j (suc c) a) ∙ f)
    ]

    inside : (j n : ℕ) → slice_get (set ns i (suc c)) j ≡ Some (suc n) → n < c + 1
    inside j n f = elim (old j n f) [ inl g ↦ (let z = h.inside j n g in omega (arith, z)) | inr z ↦ (let y = z.0 in omega (arith, y)) ]

    apart : (j k n : ℕ) → slice_get (set ns i (suc c)) j ≡ Some (suc n) → slice_get (set ns i (suc c)) k ≡ Some (suc n) → j ≡ k
    apart j k n f g = elim (old j n f) [
      | inl a ↦ elim (old k n g) [ inl b ↦ h.apart j k n a b | inr b ↦ absurd (let z = h.inside j n a in let y = b.0 in omega (arith, z, y)) ]
      | inr a ↦ elim (old k n g) [ inl b ↦ absurd (let z = h.inside k n b in let y = a.0 in omega (arith, z, y)) | inr b ↦ sym a.1 ∙ b.1 ]
    ]

-- what is known is not changed by a state behind all that have numbers
known_more : {X : Type 0} (ns : List ℕ) (ks : List X) (k : X) → ((i n : ℕ) → slice_get ns i ≡ Some (suc n) → n < length ks) → known_at ns (ks ++ k ∷ []) ≡ known_at ns ks
known_more [] ks k h = refl
known_more {X} (zero ∷ ns) ks k h = ap (λ (xs : List (Option X)). None ∷ xs) (known_more ns ks k (λ i n e. h (suc i) n e))
known_more {X} (suc n ∷ ns) ks k h =
    let e : slice_get (ks ++ k ∷ []) n ≡ slice_get ks n = got_more ks k n (h 0 n refl) in
    ap (λ (x : Option X). x ∷ known_at ns (ks ++ k ∷ [])) e ∙ ap (λ (xs : List (Option X)). slice_get ks n ∷ xs) (known_more ns ks k (λ i m f. h (suc i) m f))

pub new_known : {X : Type 0} (ns : List ℕ) (ks : List X) (i m : ℕ) (k : X) → ArePlaceNumbers ns (length ks) → m ≡ length ks + 1 → known_at (set ns i m) (ks ++ k ∷ []) ≡ set (known_at ns ks) i (Some k)
new_known {X} ns ks i m k h q =
    let z : m ≡ suc (length ks) = omega (arith, q) in
    let one : known_of_number (ks ++ k ∷ []) m ≡ Some k = ap (known_of_number (ks ++ k ∷ [])) z ∙ slice_get-last ks k in
    map-set (known_of_number (ks ++ k ∷ [])) ns i m
    ∙ ap (λ (xs : List (Option X)). set xs i (known_of_number (ks ++ k ∷ []) m)) (known_more ns ks k h.inside)
    ∙ ap (λ (x : Option X). set (known_at ns ks) i x) one

-- a place has a new number, and there is one state more
pub new_kept : {X : Type 0} (ns ms : List ℕ) (ks js : List X) (i m : ℕ) (k : X) → ArePlaceNumbers ns (length ks) → i < length ns → js ≡ ks ++ k ∷ [] → m ≡ length ks + 1 → ms ≡ set ns i m → ArePlaceNumbers ms (length js)
new_kept {X} ns ms ks js i m k h lt is q z =
    let long : length js ≡ length (ks ++ k ∷ []) = ap (λ (xs : List X). length xs) is in
    let more = length-append ks (k ∷ []) in
    let same : length ks + 1 ≡ length js = omega (arith, long, more) in
    subst (λ (xs : List ℕ). ArePlaceNumbers xs (length js)) (sym z) (subst (λ (c : ℕ). ArePlaceNumbers (set ns i m) c) same (new_numbers ns (length ks) i m h lt q))

pub new_view : {X : Type 0} (ns ms : List ℕ) (ks js : List X) (i m : ℕ) (k : X) → ArePlaceNumbers ns (length ks) → js ≡ ks ++ k ∷ [] → m ≡ length ks + 1 → ms ≡ set ns i m → known_at ms js ≡ set (known_at ns ks) i (Some k)
new_view {X} ns ms ks js i m k h is q z =
    ap (λ (xs : List ℕ). known_at xs js) z
    ∙ ap (λ (xs : List X). known_at (set ns i m) xs) is
    ∙ new_known ns ks i m k h q

-- more states behind those that have numbers
pub longer_kept : {X : Type 0} (ns : List ℕ) (ks js : List X) (k : X) → ArePlaceNumbers ns (length ks) → js ≡ ks ++ k ∷ [] → ArePlaceNumbers ns (length js)
longer_kept {X} ns ks js k h is =
    let long : length js ≡ length (ks ++ k ∷ []) = ap (λ (xs : List X). length xs) is in
    let more = length-append ks (k ∷ []) in
    record { inside = λ i n e. let z = h.inside i n e in omega (arith, long, more, z); apart = h.apart }

-- ---- and another

known_other : {X : Type 0} (ns : List ℕ) (ks : List X) (n : ℕ) (k : X) → ((i : ℕ) → slice_get ns i ≡ Some (suc n) → ⊥) → known_at ns (set ks n k) ≡ known_at ns ks
known_other [] ks n k h = refl
known_other {X} (zero ∷ ns) ks n k h = ap (λ (xs : List (Option X)). None ∷ xs) (known_other ns ks n k (λ i e. h (suc i) e))
known_other {X} (suc m ∷ ns) ks n k h =
    let ne : n ≢ m = λ e. h 0 (ap (λ (j : ℕ). Some (suc j)) (sym e)) in
    ap (λ (x : Option X). x ∷ known_at ns (set ks n k)) (got_other ks n m k ne) ∙ ap (λ (xs : List (Option X)). slice_get ks m ∷ xs) (known_other ns ks n k (λ i e. h (suc i) e))

known_again : {X : Type 0} (ns : List ℕ) (ks : List X) (i n : ℕ) (k : X) → n < length ks → slice_get ns i ≡ Some (suc n) → ((j : ℕ) → slice_get ns j ≡ Some (suc n) → i ≡ j) → known_at ns (set ks n k) ≡ set (known_at ns ks) i (Some k)
known_again [] ks i n k low e one = absurd cc
known_again {X} (zero ∷ ns) ks zero n k low e one = absurd (let q : 0 ≡ suc n = cc in omega arith)
known_again {X} (zero ∷ ns) ks (suc i) n k low e one = ap (λ (xs : List (Option X)). None ∷ xs) (known_again ns ks i n k low e (λ j f. let q = one (suc j) f in omega arith))
known_again {X} (suc m ∷ ns) ks zero n k low e one =
    let q : n ≡ m = let z : suc m ≡ suc n = cc in omega arith in
    let head : slice_get (set ks n k) m ≡ Some k = subst (λ (j : ℕ). slice_get (set ks n k) j ≡ Some k) q (got_same ks n k low) in
    ap (λ (x : Option X). x ∷ known_at ns (set ks n k)) head ∙ ap (λ (xs : List (Option X)). Some k ∷ xs) (known_other ns ks n k (λ j f. let z = one (suc j) f in omega arith))
known_again {X} (suc m ∷ ns) ks (suc i) n k low e one =
    let ne : n ≢ m = λ q. let z = one 0 (ap (λ (j : ℕ). Some (suc j)) (sym q)) in omega arith in
    ap (λ (x : Option X). x ∷ known_at ns (set ks n k)) (got_other ks n m k ne) ∙ ap (λ (xs : List (Option X)). slice_get ks m ∷ xs) (known_again ns ks i n k low e (λ j f. let z = one (suc j) f in omega arith))

pub again_known : {X : Type 0} (ns : List ℕ) (ks js : List X) (i n : ℕ) (k : X) → ArePlaceNumbers ns (length ks) → slice_get ns i ≡ Some (n + 1) → js ≡ set ks n k → known_at ns js ≡ set (known_at ns ks) i (Some k)
again_known {X} ns ks js i n k h e is =
    let z : n + 1 ≡ suc n = omega arith in
    let f : slice_get ns i ≡ Some (suc n) = e ∙ ap (λ (m : ℕ). Some m) z in
    ap (known_at ns) is ∙ known_again ns ks i n k (h.inside i n f) f (λ j g. h.apart i j n f g)

pub again_kept : {X : Type 0} (ns : List ℕ) (ks js : List X) (n : ℕ) (k : X) → ArePlaceNumbers ns (length ks) → js ≡ set ks n k → ArePlaceNumbers ns (length js)
again_kept {X} ns ks js n k h is =
    let long : length js ≡ length (set ks n k) = ap (λ (xs : List X). length xs) is in
    let same = length-set ks n k in
    let all : length ks ≡ length js = omega (arith, long, same) in
    subst (λ (c : ℕ). ArePlaceNumbers ns c) all h

-- ---- what is read

pub at_number : {X : Type 0} (ns : List ℕ) (ks : List X) (i n : ℕ) → slice_get ns i ≡ Some n → slice_get (known_at ns ks) i ≡ Some (known_of_number ks n)
at_number [] ks i n e = absurd cc
at_number (m ∷ ns) ks zero n e = let q : m ≡ n = cc in ap (λ (j : ℕ). Some (known_of_number ks j)) q
at_number (m ∷ ns) ks (suc i) n e = at_number ns ks i n e

pub at_none : {X : Type 0} (ns : List ℕ) (ks : List X) (i : ℕ) → slice_get ns i ≡ None → slice_get (known_at ns ks) i ≡ None
at_none [] ks i e = refl
at_none (m ∷ ns) ks zero e = absurd cc
at_none (m ∷ ns) ks (suc i) e = at_none ns ks i e

known_length : {X : Type 0} (ns : List ℕ) (ks : List X) → length (known_at ns ks) ≡ length ns
known_length [] ks = refl
known_length (n ∷ ns) ks = ap suc (known_length ns ks)

pub inside_numbers : {X : Type 0} (ns : List ℕ) (ks : List X) (a : List (Option X)) (i : ℕ) → known_at ns ks ≡ a → i < length a → i < length ns
inside_numbers ns ks a i e lt = let long : length a ≡ length ns = ap length (sym e) ∙ known_length ns ks in omega (arith, long, lt)

pub unknown_here : {X : Type 0} (ns : List ℕ) (ks : List X) (a : List (Option X)) (t : ℕ) → known_at ns ks ≡ a → slice_get ns t ≡ Some 0 → slice_get a t ≡ Some None
unknown_here {X} ns ks a t e z = ap (λ (xs : List (Option X)). slice_get xs t) (sym e) ∙ at_number ns ks t 0 z

pub known_here : {X : Type 0} (ns : List ℕ) (ks : List X) (a : List (Option X)) (t n i : ℕ) (x : X) → known_at ns ks ≡ a → slice_get ns t ≡ Some n → 1 ≤ n → i ≡ n - 1 → slice_get ks i ≡ Some x → slice_get a t ≡ Some (Some x)
known_here {X} ns ks a t n i x e z lt q is = ap (λ (xs : List (Option X)). slice_get xs t) (sym e) ∙ at_number ns ks t n z ∙ ap (λ (o : Option X). Some o) (numbered_next ks n i lt (sym q) ∙ is)

-- where a state stands in the list
pub place_kept : (ns : List ℕ) (all t n i : ℕ) → ArePlaceNumbers ns all → slice_get ns t ≡ Some n → 1 ≤ n → i ≡ n - 1 → i < all
place_kept ns all t zero i h e lt q = absurd (omega arith)
place_kept ns all t (suc n) i h e lt q = let z = h.inside t n e in omega (arith, z, q)

pub index_has : (ns : List ℕ) (t n i : ℕ) → slice_get ns t ≡ Some n → 1 ≤ n → i ≡ n - 1 → slice_get ns t ≡ Some (i + 1)
index_has ns t n i e lt q = let z : n ≡ i + 1 = omega (arith, lt, q) in e ∙ ap (λ (m : ℕ). Some m) z

pub has_inside : (ns : List ℕ) (all t i : ℕ) → ArePlaceNumbers ns all → slice_get ns t ≡ Some (i + 1) → i < all
has_inside ns all t i h e = place_kept ns all t (i + 1) i h e (omega arith) (omega arith)

pub numbered_past : {X : Type 0} (known : List X) (n : ℕ) → length known < n → known_of_number known n ≡ None
numbered_past known zero h = refl
numbered_past known (suc n) h = slice_get_past known n (omega (arith, h))
