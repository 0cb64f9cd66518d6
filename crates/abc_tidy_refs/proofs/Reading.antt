-- Reading a number at a place, or 0 past the end, and what is made and noted one after the other.
use Rattle.std.proofs.Common.{◌≡◌, ℕ, zero, suc, ◌+◌, ◌<◌, ◌≤◌, List, [], ◌∷◌, ◌++◌, Some, None, get_or, slice_get, length, drop, map, take, refl, sym, ap, ◌∙◌, append_assoc, arith}
use Rattle.std.specs.List.{fold}
use Rattle.std.proofs.Math.ListN.{drop_of_length-le, set}
use Rattle.std.proofs.Math.Seq.{take-suc}
use Rattle.std.proofs.lemmas.List.{append-nil, map_push, set-get_or, take_all}
use Rattle.std.proofs.lemmas.List.Edits.{map_over_more}
use Rattle.std.proofs.lemmas.Option.{get_or_from_slice_get}
use Rattle.abc_tidy_refs.specs.declared.refs.Ref.{Ref}

pub no_number : (xs : List ℕ) (i : ℕ) → slice_get xs i ≡ None → 0 ≡ get_or xs i 0
no_number [] i e = refl
no_number (x ∷ xs) zero e = cc
no_number (x ∷ xs) (suc i) e = no_number xs i e

pub a_number : (xs : List ℕ) (i x : ℕ) → slice_get xs i ≡ Some x → x ≡ get_or xs i 0
a_number xs i x e = sym (get_or_from_slice_get xs i x 0 e)

-- what was made of the first values of a list, and what is made of the next
pub push_mapped : {A B : Type 0} (f : A → B) (xs : List A) (ys : List B) (i : ℕ) (x : A) (y : B) → ys ≡ map f (take i xs) → i < length xs → x ≡ get_or xs i x → y ≡ f x → ys ++ y ∷ [] ≡ map f (take (i + 1) xs)
push_mapped f xs ys i x y e lt at is =
    let one : i + 1 ≡ suc i = omega arith in
    ap (λ s. s ++ y ∷ []) e ∙ ap (λ b. map f (take i xs) ++ b ∷ []) (is ∙ ap f at) ∙ sym (map_push f (take i xs) (get_or xs i x))
    ∙ sym (ap (map f) (ap (λ n. take n xs) one ∙ take-suc xs i x lt))

-- the same in place
pub put_next : {A : Type 0} (f : A → A) (xs ys zs : List A) (i : ℕ) (x y : A) → ys ≡ map f (take i xs) ++ drop i xs → i < length xs → get_or ys i x ≡ x → y ≡ f x → zs ≡ set ys i y → zs ≡ map f (take (i + 1) xs) ++ drop (i + 1) xs
put_next f xs ys zs i x y e lt at is put = put ∙ ap (set ys i) is ∙ map_over_more f xs ys i x lt e (sym at)

pub put_all : {A : Type 0} (f : A → A) (xs ys : List A) (i : ℕ) → ys ≡ map f (take i xs) ++ drop i xs → length xs ≤ i → ys ≡ map f xs
put_all f xs ys i e le = e ∙ (λ j. map f (take_all i xs le j) ++ drop_of_length-le xs le j) ∙ append-nil (map f xs)

-- what is put twice at a place is what was put last
set_twice : {A : Type 0} (xs : List A) (i : ℕ) (x y : A) → set (set xs i x) i y ≡ set xs i y
set_twice [] i x y = refl
set_twice (z ∷ xs) zero x y = refl
set_twice (z ∷ xs) (suc i) x y = ap (λ s. z ∷ s) (set_twice xs i x y)

pub set_again : {A : Type 0} (xs ys zs : List A) (i : ℕ) (x y : A) → ys ≡ set xs i x → zs ≡ set ys i y → zs ≡ set xs i y
set_again xs ys zs i x y e f = f ∙ ap (λ s. set s i y) e ∙ set_twice xs i x y

-- what stands at a place may be put there
pub set_same : {A : Type 0} (xs : List A) (i : ℕ) (x : A) → get_or xs i x ≡ x → xs ≡ set xs i x
set_same xs i x e = sym (set-get_or xs i x) ∙ ap (λ y. set xs i y) e

-- ---- what is noted, one after the other

pub all_noted : (refs found : List Ref) → found ≡ fold (λ (rs : List Ref) (r : Ref). rs ++ r ∷ []) [] refs → found ≡ refs
all_noted refs found e = e ∙ from [] refs
  where
    from : (before rs : List Ref) → fold (λ (rs : List Ref) (r : Ref). rs ++ r ∷ []) before rs ≡ before ++ rs
    from before [] = sym (append-nil before)
    from before (r ∷ rs) = from (before ++ r ∷ []) rs ∙ append_assoc before (r ∷ []) rs
