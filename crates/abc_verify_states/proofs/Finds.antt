-- Reads of tables, and lists that grow at their end.
use Rattle.std.proofs.Common.{◌≡◌, ℕ, zero, suc, ◌+◌, ◌<◌, ◌≤◌, List, [], ◌∷◌, ◌++◌, Some, None, length, take, drop, map, get_or, refl, sym, ap, ◌∙◌, append_assoc, arith}
use Rattle.std.specs.Prelude.{slice_get}
use Rattle.std.proofs.lemmas.List.{append-nil, map-append}
use Rattle.std.proofs.lemmas.Option.{get_or_from_slice_get}

pub found : {A : Type 0} (xs : List A) (i : ℕ) (d x : A) → Some x ≡ slice_get xs i → x ≡ get_or xs i d
found xs i d x e = sym (get_or_from_slice_get xs i x d (sym e))

-- a value that is there doesn't hang on what stands for none
pub at_any : {A : Type 0} (xs : List A) (i : ℕ) (x d : A) → i < length xs → get_or xs i x ≡ x → x ≡ get_or xs i d
at_any [] i x d h e = absurd (omega arith)
at_any (y ∷ xs) zero x d h e = sym e
at_any (y ∷ xs) (suc i) x d h e = at_any xs i x d (omega arith) e

pub take_next : {A : Type 0} (xs : List A) (k : ℕ) (d : A) → k < length xs → take (suc k) xs ≡ take k xs ++ get_or xs k d ∷ []
take_next [] k d h = absurd (omega arith)
take_next (x ∷ xs) zero d h = refl
take_next {A} (x ∷ xs) (suc k) d h = ap (λ (ys : List A). x ∷ ys) (take_next xs k d (omega arith))

pub take_whole : {A : Type 0} (xs : List A) (k : ℕ) → length xs ≤ k → take k xs ≡ xs
take_whole [] zero h = refl
take_whole [] (suc k) h = refl
take_whole (x ∷ xs) zero h = absurd (omega arith)
take_whole {A} (x ∷ xs) (suc k) h = ap (λ (ys : List A). x ∷ ys) (take_whole xs k (omega arith))

pub none_left : {A : Type 0} (xs : List A) (k : ℕ) → length xs ≤ k → drop k xs ≡ []
none_left [] zero h = refl
none_left [] (suc k) h = refl
none_left (x ∷ xs) zero h = absurd (omega arith)
none_left (x ∷ xs) (suc k) h = none_left xs k (omega arith)

pub next_left : {A : Type 0} (xs : List A) (k : ℕ) (x : A) → k < length xs → get_or xs k x ≡ x → drop k xs ≡ x ∷ drop (suc k) xs
next_left [] k x h e = absurd (omega arith)
next_left {A} (y ∷ xs) zero x h e = ap (λ (z : A). z ∷ xs) e
next_left (y ∷ xs) (suc k) x h e = next_left xs k x (omega arith) e

-- a list to which something is done element by element
module _ {A B : Type 0} (f : A → B) (xs : List A) (first : List B) where
  pub pushed_none : first ≡ first ++ map f (take 0 xs)
  pushed_none = sym (append-nil first)

  pub pushed_next : (k : ℕ) (d : A) (y : B) (old new : List B) → k < length xs → y ≡ f (get_or xs k d) → old ≡ first ++ map f (take k xs) → new ≡ old ++ y ∷ [] → new ≡ first ++ map f (take (k + 1) xs)
  pushed_next k d y old new lt at before is =
      let next : suc k ≡ k + 1 = omega arith in
      let more : map f (take (k + 1) xs) ≡ map f (take k xs) ++ f (get_or xs k d) ∷ [] = ap (λ (n : ℕ). map f (take n xs)) (sym next) ∙ ap (map f) (take_next xs k d lt) ∙ map-append f (take k xs) (get_or xs k d ∷ []) in
      is
      ∙ ap (λ (ys : List B). ys ++ y ∷ []) before
      ∙ append_assoc first (map f (take k xs)) (y ∷ [])
      ∙ ap (λ (z : B). first ++ (map f (take k xs) ++ z ∷ [])) at
      ∙ ap (λ (ys : List B). first ++ ys) (sym more)

  pub pushed_all : (k : ℕ) (all : List B) → length xs ≤ k → all ≡ first ++ map f (take k xs) → all ≡ first ++ map f xs
  pushed_all k all le is = is ∙ ap (λ (ys : List A). first ++ map f ys) (take_whole xs k le)
