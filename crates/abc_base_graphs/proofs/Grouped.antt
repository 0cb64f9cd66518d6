-- One key more in its group.
use Rattle.std.proofs.Common.{◌≡◌, ℕ, ◌+◌, ◌<◌, ◌⊎◌, inl, inr, Bool, true, false, List, [], ◌∷◌, ◌++◌, Some, nat_eq, eq-eqb, eqb-true, cond, unwrap_or, length, take, get_or, refl, sym, ap, ◌∙◌, arith}
use Rattle.std.proofs.lemmas.Bool.{cases_eq}
use Rattle.std.proofs.lemmas.List.{take_more, length-take}
use Rattle.indexmap.specs.IndexMap.{get}
use Rattle.abc_base_graphs.specs.Groups.{places_from, places_of, some_places, GroupMap, Groups, AddsPlace}

-- a key more at the end
pub places-append : {K : Type 0} (test : K → Bool) (n : ℕ) (xs : List K) (x : K) → places_from test n (xs ++ x ∷ []) ≡ places_from test n xs ++ cond (test x) ((n + length xs) ∷ []) []
places-append test n [] x = go (test x)
  where
    go : (b : Bool) → cond b (n ∷ []) [] ≡ [] ++ cond b ((n + 0) ∷ []) []
    go true = let e : n ≡ n + 0 = omega arith in ap (λ m. m ∷ []) e
    go false = refl
places-append test n (y ∷ xs) x = go (places-append test (n + 1) xs x) (test y)
  where
    at : n + 1 + length xs ≡ n + length (y ∷ xs)
    at = omega arith

    more : places_from test (n + 1) (xs ++ x ∷ []) ≡ places_from test (n + 1) xs ++ cond (test x) ((n + 1 + length xs) ∷ []) [] → places_from test (n + 1) (xs ++ x ∷ []) ≡ places_from test (n + 1) xs ++ cond (test x) ((n + length (y ∷ xs)) ∷ []) []
    more e = e ∙ ap (λ m. places_from test (n + 1) xs ++ cond (test x) (m ∷ []) []) at

    go : places_from test (n + 1) (xs ++ x ∷ []) ≡ places_from test (n + 1) xs ++ cond (test x) ((n + 1 + length xs) ∷ []) []
        → (b : Bool) → cond b (n ∷ places_from test (n + 1) (xs ++ x ∷ [])) (places_from test (n + 1) (xs ++ x ∷ [])) ≡ cond b (n ∷ places_from test (n + 1) xs) (places_from test (n + 1) xs) ++ cond (test x) ((n + length (y ∷ xs)) ∷ []) []
    go e true = ap (λ l. n ∷ l) (more e)
    go e false = more e

unwrap_some : (ps : List ℕ) → unwrap_or (some_places ps) [] ≡ ps
unwrap_some [] = refl
unwrap_some (p ∷ ps) = refl

some_push : (ps : List ℕ) (p : ℕ) → Some (ps ++ p ∷ []) ≡ some_places (ps ++ p ∷ [])
some_push [] p = refl
some_push (q ∷ ps) p = refl

append_none : (ps : List ℕ) → ps ++ [] ≡ ps
append_none [] = refl
append_none (p ∷ ps) = ap (λ l. p ∷ l) (append_none ps)

-- the places of a key among the first keys, and one more
places_more : (keys : List ℕ) (i k : ℕ) → i < length keys → places_of (nat_eq k) (take (i + 1) keys) ≡ places_of (nat_eq k) (take i keys) ++ cond (nat_eq k (get_or keys i 0)) (i ∷ []) []
places_more keys i k lt =
    let e : 0 + length (take i keys) ≡ i = omega (arith, length-take i keys) in
    ap (places_of (nat_eq k)) (take_more keys i 0 lt)
    ∙ places-append (nat_eq k) 0 (take i keys) (get_or keys i 0)
    ∙ ap (λ m. places_of (nat_eq k) (take i keys) ++ cond (nat_eq k (get_or keys i 0)) (m ∷ []) []) e

pub groups_next : (old new : GroupMap) (keys : List ℕ) (i : ℕ) → i < length keys → Groups old (take i keys) → AddsPlace old new (get_or keys i 0) i → Groups new (take (i + 1) keys)
groups_next old new keys i lt g a = record { groups = λ k. go k (cases_eq (get_or keys i 0) k) }
  where
    go : (k : ℕ) → (get_or keys i 0 ≡ k) ⊎ (get_or keys i 0 ≡ k → ⊥) → get nat_eq new k ≡ some_places (places_of (nat_eq k) (take (i + 1) keys))
    go k (inl e) =
        let h : nat_eq k (get_or keys i 0) ≡ true = eq-eqb k (get_or keys i 0) (sym e) in
        let was : unwrap_or (get nat_eq old (get_or keys i 0)) [] ≡ places_of (nat_eq k) (take i keys) =
        ap (λ m. unwrap_or (get nat_eq old m) []) e ∙ ap (λ o. unwrap_or o []) (g.groups k) ∙ unwrap_some (places_of (nat_eq k) (take i keys)) in
        ap (get nat_eq new) (sym e) ∙ a.here ∙ ap (λ l. Some (l ++ i ∷ [])) was ∙ some_push (places_of (nat_eq k) (take i keys)) i
        ∙ ap some_places (sym (places_more keys i k lt ∙ ap (λ b. places_of (nat_eq k) (take i keys) ++ cond b (i ∷ []) []) h))
    go k (inr ne) = other (nat_eq k (get_or keys i 0)) refl
      where
        other : (b : Bool) → nat_eq k (get_or keys i 0) ≡ b → get nat_eq new k ≡ some_places (places_of (nat_eq k) (take (i + 1) keys))
        other true h = absurd (ne (sym (eqb-true k (get_or keys i 0) h)))
        other false h =
            a.others k ne ∙ g.groups k
            ∙ ap some_places (sym (places_more keys i k lt ∙ ap (λ b. places_of (nat_eq k) (take i keys) ++ cond b (i ∷ []) []) h ∙ append_none (places_of (nat_eq k) (take i keys))))
