-- The bytes at the front that pass a test.
use Rattle.std.proofs.Common.{◌≡◌, ℕ, Bool, true, false, cond, List, [], ◌∷◌, ◌++◌, length, take, drop, refl, sym, ap, subst, ◌∙◌}
use Rattle.std.specs.List.{list_all, take_while}
use Rattle.std.proofs.Math.Seq.{drop-append_seam}
use Rattle.std.proofs.lemmas.Bool.{and_parts}
use Rattle.std.proofs.lemmas.List.Sums.{take_while-cons}
use Rattle.abc_log.specs.Limits.{EndsAll}

module _ (p : ℕ → Bool) where
  pub front : (xs more : List ℕ) → list_all p xs ≡ true → EndsAll p more → take_while p (xs ++ more) ≡ xs
  front [] [] all ends = refl
  front [] (b ∷ bs) all ends = take_while-cons p b bs ∙ ap (λ (t : Bool). cond t (b ∷ take_while p bs) []) ends
  front (x ∷ xs) more all ends =
      let both = and_parts (p x) (list_all p xs) all in
      take_while-cons p x (xs ++ more) ∙ ap (λ (t : Bool). cond t (x ∷ take_while p (xs ++ more)) []) both.0 ∙ ap (λ (l : List ℕ). x ∷ l) (front xs more both.1 ends)

  -- there is one way to part bytes so
  pub one_front : (xs ys more rest : List ℕ) → list_all p xs ≡ true → list_all p ys ≡ true → EndsAll p more → EndsAll p rest → xs ++ more ≡ ys ++ rest → (xs ≡ ys) × (more ≡ rest)
  one_front xs ys more rest all_xs all_ys ends_more ends_rest e =
      let same : xs ≡ ys = sym (front xs more all_xs ends_more) ∙ ap (take_while p) e ∙ front ys rest all_ys ends_rest in
      (same, sym (drop-append_seam xs more) ∙ ap (drop (length xs)) e ∙ ap (λ (l : List ℕ). drop (length l) (ys ++ rest)) same ∙ drop-append_seam ys rest)

  pub front_taken : (xs : List ℕ) → take (length (take_while p xs)) xs ≡ take_while p xs
  front_taken [] = refl
  front_taken (x ∷ xs) = subst (λ (l : List ℕ). take (length l) (x ∷ xs) ≡ l) (sym (take_while-cons p x xs)) (go (p x) (front_taken xs))
    where
      go : (t : Bool) → take (length (take_while p xs)) xs ≡ take_while p xs → take (length (cond t (x ∷ take_while p xs) [])) (x ∷ xs) ≡ cond t (x ∷ take_while p xs) []
      go true e = ap (λ (l : List ℕ). x ∷ l) e
      go false e = refl

  pub rest_ends : (xs : List ℕ) → EndsAll p (drop (length (take_while p xs)) xs)
  rest_ends [] = tt
  rest_ends (x ∷ xs) = subst (λ (l : List ℕ). EndsAll p (drop (length l) (x ∷ xs))) (sym (take_while-cons p x xs)) (go (p x) refl (rest_ends xs))
    where
      go : (t : Bool) → p x ≡ t → EndsAll p (drop (length (take_while p xs)) xs) → EndsAll p (drop (length (cond t (x ∷ take_while p xs) [])) (x ∷ xs))
      go true e ends = ends
      go false e ends = e
