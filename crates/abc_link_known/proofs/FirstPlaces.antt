-- What is found first in a list, and by keys.
use Rattle.std.proofs.Common.{◌≡◌, ℕ, zero, suc, ◌+◌, ◌<◌, Bool, true, false, ◌&&◌, ◌||◌, List, [], ◌∷◌, ◌++◌, Some, None, cond, nat_eq, eq-eqb, eqb-true, unwrap_or, length, get_or, refl, sym, ap, ◌∙◌, arith, append_assoc}
use Rattle.std.specs.Prelude.{slice_get}
use Rattle.std.specs.declared.option.Option.{Option}
use Rattle.std.specs.List.{find}
use Rattle.std.proofs.lemmas.Bool.{false≢true}
use Rattle.std.proofs.lemmas.List.{get_or-map, length_push}
use Rattle.abc_base_graphs.specs.Index.{first, first_from}
use Rattle.abc_base_graphs.specs.Groups.{places_from}
use Rattle.abc_base_graphs.proofs.Numbering.{both_ways}
use Rattle.abc_link_names.specs.Keys.{keys_eq}
use Rattle.abc_link_names.specs.declared.keys.NameKey.{NameKey}
use Rattle.abc_link_known.specs.Slates.{is_at, earlier_place, item_at}
use Rattle.abc_link_known.specs.Spots.{firsts_of}

-- what is found passes
pub hit : {K : Type 0} (test : K → Bool) (n : ℕ) (xs : List K) (d : K) (k : ℕ) → first_from test n xs ≡ Some k → (p : ℕ) × (k ≡ n + p) × (p < length xs) × (test (get_or xs p d) ≡ true)
hit test n [] d k e = cc
hit test n (x ∷ xs) d k e = go (hit test (n + 1) xs d k) (test x) refl e
  where
    go : (first_from test (n + 1) xs ≡ Some k → (p : ℕ) × (k ≡ n + 1 + p) × (p < length xs) × (test (get_or xs p d) ≡ true)) → (b : Bool) → test x ≡ b → cond b (Some n) (first_from test (n + 1) xs) ≡ Some k
        → (p : ℕ) × (k ≡ n + p) × (p < length (x ∷ xs)) × (test (get_or (x ∷ xs) p d) ≡ true)
    go more true is f = let q : n ≡ k = cc in (0, omega arith, omega arith, is)
    go more false is f = let m = more f in let h : k ≡ n + 1 + m.0 = m.1 in let l : m.0 < length xs = m.2 in (suc m.0, omega arith, omega arith, m.3)

-- where something passes, something is found
pub reached : {K : Type 0} (test : K → Bool) (n : ℕ) (xs : List K) (d : K) (j : ℕ) → j < length xs → test (get_or xs j d) ≡ true → (p : ℕ) × (first_from test n xs ≡ Some (n + p)) × (p < length xs) × (test (get_or xs p d) ≡ true)
reached test n [] d j lt e = absurd (omega arith)
reached test n (x ∷ xs) d zero lt e = (0, ap (λ b. cond b (Some n) (first_from test (n + 1) xs)) e ∙ ap Some (omega arith), omega arith, e)
reached test n (x ∷ xs) d (suc j) lt e = go (reached test (n + 1) xs d j (omega arith) e) (test x) refl
  where
    go : (p : ℕ) × (first_from test (n + 1) xs ≡ Some (n + 1 + p)) × (p < length xs) × (test (get_or xs p d) ≡ true) → (b : Bool) → test x ≡ b
        → (p : ℕ) × (cond b (Some n) (first_from test (n + 1) xs) ≡ Some (n + p)) × (p < length (x ∷ xs)) × (test (get_or (x ∷ xs) p d) ≡ true)
    go m true is = (0, ap Some (omega arith), omega arith, is)
    go m false is = let l : m.0 < length xs = m.2 in (suc m.0, m.1 ∙ ap Some (omega arith), omega arith, m.3)

-- two tests that agree find the same
pub same_first : {K : Type 0} (f g : K → Bool) → ((k : K) → f k ≡ g k) → (n : ℕ) (xs : List K) → first_from f n xs ≡ first_from g n xs
same_first f g agree n [] = refl
same_first f g agree n (x ∷ xs) =
    ap (λ b. cond b (Some n) (first_from f (n + 1) xs)) (agree x)
    ∙ ap (λ (o : Option ℕ). cond (g x) (Some n) o) (same_first f g agree (n + 1) xs)

pub nothing_first : {K : Type 0} (f : K → Bool) → ((k : K) → f k ≡ false) → (n : ℕ) (xs : List K) → first_from f n xs ≡ None
nothing_first f never n [] = refl
nothing_first f never n (x ∷ xs) = ap (λ b. cond b (Some n) (first_from f (n + 1) xs)) (never x) ∙ nothing_first f never (n + 1) xs

-- the first that passes one of two tests
pub first_of_two : {K : Type 0} (f g : K → Bool) (n : ℕ) (xs : List K) → earlier_place (first_from f n xs) (first_from g n xs) ≡ first_from (λ x. f x || g x) n xs
first_of_two f g n [] = refl
first_of_two f g n (x ∷ xs) =
    go (f x) (g x) (first_from f (n + 1) xs) (first_from g (n + 1) xs) (first_of_two f g (n + 1) xs)
    (λ k e. let h = hit f (n + 1) xs x k e in let q : k ≡ n + 1 + h.0 = h.1 in omega arith)
    (λ k e. let h = hit g (n + 1) xs x k e in let q : k ≡ n + 1 + h.0 = h.1 in omega arith)
  where
    go : (b c : Bool) (p q : Option ℕ) → earlier_place p q ≡ first_from (λ x. f x || g x) (n + 1) xs → ((k : ℕ) → p ≡ Some k → n < k) → ((k : ℕ) → q ≡ Some k → n < k)
        → earlier_place (cond b (Some n) p) (cond c (Some n) q) ≡ cond (b || c) (Some n) (first_from (λ x. f x || g x) (n + 1) xs)
    go true true p q more low high = ap Some (omega arith)
    go true false p None more low high = refl
    go true false p (Some k) more low high = let lt = high k refl in ap Some (omega arith)
    go false true None q more low high = refl
    go false true (Some k) q more low high = let lt = low k refl in ap Some (omega arith)
    go false false p q more low high = more

-- ---- what is found, by its place

item_end : (ys : List ℕ) (x : ℕ) (xs : List ℕ) → slice_get (ys ++ x ∷ xs) (length ys) ≡ Some x
item_end [] x xs = refl
item_end (y ∷ ys) x xs = item_end ys x xs

found_from : (f : ℕ → Bool) (ys xs : List ℕ) → item_at (ys ++ xs) (first_from f (length ys) xs) ≡ find f xs
found_from f ys [] = refl
found_from f ys (x ∷ xs) = go (f x) (found_from f (ys ++ x ∷ []) xs)
  where
    go : (b : Bool) → item_at ((ys ++ x ∷ []) ++ xs) (first_from f (length (ys ++ x ∷ [])) xs) ≡ find f xs → item_at (ys ++ x ∷ xs) (cond b (Some (length ys)) (first_from f (length ys + 1) xs)) ≡ cond b (Some x) (find f xs)
    go true more = item_end ys x xs
    go false more =
        ap (λ n. item_at (ys ++ x ∷ xs) (first_from f n xs)) (sym (length_push ys x))
        ∙ ap (λ (l : List ℕ). item_at l (first_from f (length (ys ++ x ∷ [])) xs)) (sym (append_assoc ys (x ∷ []) xs))
        ∙ more

pub found_first : (f : ℕ → Bool) (xs : List ℕ) → item_at xs (first f xs) ≡ find f xs
found_first f xs = found_from f [] xs

-- two tests that agree wherever a key passes find the same among the places of the key
pub same_among : {K : Type 0} (f g : ℕ → Bool) (test : K → Bool) (d : K) (n : ℕ) (xs : List K) → ((j : ℕ) → j < length xs → test (get_or xs j d) ≡ true → f (n + j) ≡ g (n + j)) → find f (places_from test n xs) ≡ find g (places_from test n xs)
same_among f g test d n [] agree = refl
same_among f g test d n (x ∷ xs) agree =
    go
    (same_among f g test d (n + 1) xs (λ j lt is. let e : n + suc j ≡ n + 1 + j = omega arith in ap f (sym e) ∙ agree (suc j) (omega arith) is ∙ ap g e))
    (test x) refl
  where
    rest : List ℕ
    rest = places_from test (n + 1) xs

    go : find f rest ≡ find g rest → (b : Bool) → test x ≡ b → find f (cond b (n ∷ rest) rest) ≡ find g (cond b (n ∷ rest) rest)
    go more false is = more
    go more true is =
        let z : n + 0 ≡ n = omega arith in
        let e : f n ≡ g n = ap f (sym z) ∙ agree 0 (omega arith) is ∙ ap g z in
        ap (λ b. cond b (Some n) (find f rest)) e ∙ ap (λ (o : Option ℕ). cond (g n) (Some n) o) more

-- ---- keys

both : (a b : Bool) → (a && b) ≡ true → (a ≡ true) × (b ≡ true)
both true true e = (refl, refl)
both true false e = absurd (false≢true e)
both false b e = absurd (false≢true e)

and_four : {p p' q q' r r' s s' : Bool} → p ≡ p' → q ≡ q' → r ≡ r' → s ≡ s' → (p && (q && (r && s))) ≡ (p' && (q' && (r' && s')))
and_four e f g h = cc

self : (a : ℕ) → nat_eq a a ≡ true
self a = eq-eqb a a refl

pub key_self : (a : NameKey) → keys_eq a a ≡ true
key_self a = and_four (self a.text) (self a.code) (self a.name) (self a.place)

pub turned : (a b : ℕ) → nat_eq a b ≡ nat_eq b a
turned a b = both_ways (nat_eq a b) (nat_eq b a) (λ e. eq-eqb b a (sym (eqb-true a b e))) (λ e. eq-eqb a b (sym (eqb-true b a e)))

key_turned : (a b : NameKey) → keys_eq a b ≡ keys_eq b a
key_turned a b = and_four (turned a.text b.text) (turned a.code b.code) (turned a.name b.name) (turned a.place b.place)

-- what is equal to one of two equal keys is equal to the other
key_along : (a b k : NameKey) → keys_eq a b ≡ true → keys_eq a k ≡ keys_eq b k
key_along a b k e =
    let t = both (nat_eq a.text b.text) (nat_eq a.code b.code && (nat_eq a.name b.name && nat_eq a.place b.place)) e in
    let c = both (nat_eq a.code b.code) (nat_eq a.name b.name && nat_eq a.place b.place) t.1 in
    let n = both (nat_eq a.name b.name) (nat_eq a.place b.place) c.1 in
    and_four
    (ap (λ x. nat_eq x k.text) (eqb-true a.text b.text t.0))
    (ap (λ x. nat_eq x k.code) (eqb-true a.code b.code c.0))
    (ap (λ x. nat_eq x k.name) (eqb-true a.name b.name n.0))
    (ap (λ x. nat_eq x k.place) (eqb-true a.place b.place n.1))

at_is : (o : Option ℕ) (q : ℕ) → is_at o q ≡ true → o ≡ Some q
at_is None q e = absurd (false≢true e)
at_is (Some p) q e = ap Some (eqb-true p q e)

-- a key is found at the place of an equal one, which is that of itself at the latest
pub own_first : (ks : List NameKey) (d : NameKey) (c : ℕ) → c < length ks → (first (keys_eq (get_or ks c d)) ks ≡ Some (get_or (firsts_of ks) c 0)) × (get_or (firsts_of ks) c 0 < length ks) × (keys_eq (get_or ks c d) (get_or ks (get_or (firsts_of ks) c 0) d) ≡ true)
own_first ks d c lt =
    let own = reached (keys_eq (get_or ks c d)) 0 ks d c lt (key_self (get_or ks c d)) in
    let z : 0 + own.0 ≡ own.0 = omega arith in
    let f : first (keys_eq (get_or ks c d)) ks ≡ Some own.0 = own.1 ∙ ap Some z in
    let at : own.0 ≡ get_or (firsts_of ks) c 0 = sym (get_or-map (λ k. unwrap_or (first (keys_eq k) ks) 0) ks c d 0 lt ∙ ap (λ o. unwrap_or o 0) f) in
    let l : own.0 < length ks = own.2 in
    (f ∙ ap Some at, omega arith, ap (λ m. keys_eq (get_or ks c d) (get_or ks m d)) (sym at) ∙ own.3)

-- a key is found where an equal one among the keys is
pub found_alike : (ks : List NameKey) (a d : NameKey) (c : ℕ) → c < length ks → is_at (first (keys_eq a) ks) (get_or (firsts_of ks) c 0) ≡ keys_eq (get_or ks c d) a
found_alike ks a d c lt = both_ways _ _ there back
  where
    kc : NameKey
    kc = get_or ks c d

    q : ℕ
    q = get_or (firsts_of ks) c 0

    own : (first (keys_eq kc) ks ≡ Some q) × (q < length ks) × (keys_eq kc (get_or ks q d) ≡ true)
    own = own_first ks d c lt

    there : is_at (first (keys_eq a) ks) q ≡ true → keys_eq kc a ≡ true
    there e =
        let h = hit (keys_eq a) 0 ks d q (at_is (first (keys_eq a) ks) q e) in
        let m : h.0 ≡ q = let w : q ≡ 0 + h.0 = h.1 in omega arith in
        let x : keys_eq a (get_or ks q d) ≡ true = ap (λ m. keys_eq a (get_or ks m d)) (sym m) ∙ h.3 in
        key_turned kc a ∙ key_along a (get_or ks q d) kc x ∙ key_turned (get_or ks q d) kc ∙ own.2

    back : keys_eq kc a ≡ true → is_at (first (keys_eq a) ks) q ≡ true
    back e =
        ap (λ o. is_at o q) (sym (same_first (keys_eq kc) (keys_eq a) (λ k. key_along kc a k e) 0 ks) ∙ own.0) ∙ self q
