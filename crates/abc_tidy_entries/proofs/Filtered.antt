-- The indices of names among some indices.
use Rattle.std.proofs.Common.{◌≡◌, ℕ, suc, ◌+◌, ◌<◌, ◌≤◌, List, [], ◌∷◌, ◌++◌, Bool, true, false, ◌&&◌, not, nat_eq, nat_le, if◌then◌else◌, length, take, get_or, refl, sym, ap, subst, ◌∙◌, arith, append_assoc, true≢false}
use Rattle.std.proofs.Math.Seq.{take-suc}
use Rattle.std.proofs.lemmas.Bool.{leb-true}
use Rattle.std.proofs.lemmas.List.Elements.{filter-append}
use Rattle.std.specs.List.{AllByRecursion}
use Rattle.abc_tidy_entries.specs.NameGraph.{is_name_index, names_among}

pub take_next : {A : Type 0} (xs : List A) (i : ℕ) (d : A) → i < length xs → take (i + 1) xs ≡ take i xs ++ get_or xs i d ∷ []
take_next xs i d lt = let one : i + 1 ≡ suc i = omega arith in ap (λ n. take n xs) one ∙ take-suc xs i d lt

one_name : (n x : ℕ) (b : Bool) → is_name_index n x ≡ b → names_among n (x ∷ []) ≡ (if b then x ∷ [] else [])
one_name n x b e = ap (λ t. if t then x ∷ [] else []) e

among_next : (n : ℕ) (xs : List ℕ) (i x : ℕ) (b : Bool) → i < length xs → x ≡ get_or xs i 0 → is_name_index n x ≡ b → names_among n (take (i + 1) xs) ≡ names_among n (take i xs) ++ (if b then x ∷ [] else [])
among_next n xs i x b lt at e =
    ap (names_among n) (take_next xs i 0 lt) ∙ filter-append (is_name_index n) (take i xs) (get_or xs i 0 ∷ [])
    ∙ ap (λ y. names_among n (take i xs) ++ names_among n (y ∷ [])) (sym at) ∙ ap (λ ys. names_among n (take i xs) ++ ys) (one_name n x b e)

-- what is added by a loop
pub kept_next : (n : ℕ) (xs old new : List ℕ) (i x : ℕ) → new ≡ old ++ names_among n (take i xs) → i < length xs → x ≡ get_or xs i 0 → is_name_index n x ≡ true → new ++ x ∷ [] ≡ old ++ names_among n (take (i + 1) xs)
kept_next n xs old new i x e lt at is =
    ap (λ ys. ys ++ x ∷ []) e ∙ append_assoc old (names_among n (take i xs)) (x ∷ []) ∙ ap (λ ys. old ++ ys) (sym (among_next n xs i x true lt at is))

append_none : (xs : List ℕ) → xs ++ [] ≡ xs
append_none [] = refl
append_none (x ∷ xs) = ap (λ ys. x ∷ ys) (append_none xs)

pub left_next : (n : ℕ) (xs old new : List ℕ) (i x : ℕ) → new ≡ old ++ names_among n (take i xs) → i < length xs → x ≡ get_or xs i 0 → is_name_index n x ≡ false → new ≡ old ++ names_among n (take (i + 1) xs)
left_next n xs old new i x e lt at is =
    e ∙ ap (λ ys. old ++ ys) (sym (append_none (names_among n (take i xs))) ∙ sym (among_next n xs i x false lt at is))

-- they are at most so many
among : (n : ℕ) (xs : List ℕ) → AllByRecursion (λ y. y < suc n) (names_among n xs)
among n [] = tt
among n (x ∷ xs) = by (is_name_index n x) refl (among n xs)
  where
    and-right : (a b : Bool) → (a && b) ≡ true → b ≡ true
    and-right true b e = e
    and-right false b e = absurd (true≢false (sym e))

    by : (b : Bool) → is_name_index n x ≡ b → AllByRecursion (λ y. y < suc n) (names_among n xs) → AllByRecursion (λ y. y < suc n) (names_among n (x ∷ xs))
    by true e rest =
        let l : x ≤ n = leb-true x n (and-right (not (nat_eq x 0)) (nat_le x n) e) in
        let m : x < suc n = omega arith in
        subst (AllByRecursion (λ y. y < suc n)) (sym (ap (λ t. if t then x ∷ names_among n xs else names_among n xs) e)) (m, rest)
    by false e rest = subst (AllByRecursion (λ y. y < suc n)) (sym (ap (λ t. if t then x ∷ names_among n xs else names_among n xs) e)) rest

pub among_below : (n m : ℕ) (xs : List ℕ) → m ≡ suc n → AllByRecursion (λ y. y < m) (names_among n xs)
among_below n m xs e = subst (λ k. AllByRecursion (λ y. y < k) (names_among n xs)) (sym e) (among n xs)
