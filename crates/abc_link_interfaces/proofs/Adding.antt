-- Numbers that are added one after the other.
use Rattle.std.proofs.Common.{◌≡◌, ℕ, ◌+◌, ◌<◌, ◌≤◌, ◌⊎◌, inl, inr, List, [], ◌∷◌, ◌++◌, Contains, get_or, length, sym, ap, subst, ◌∙◌, arith}
use Rattle.std.proofs.lemmas.Bool.{cases_lt}
use Rattle.std.proofs.lemmas.List.{get_or_default}
use Rattle.std.proofs.lemmas.List.Elements.{Contains-append_left, Contains-push, Contains-push_cases}
use Rattle.abc_link_interfaces.specs.Sets.{AddsEach}

contains_one : (x y : ℕ) → x ≡ y → Contains (x ∷ []) y
contains_one x y e = (0, omega arith, e)

pub one_more : (old : List ℕ) (x : ℕ) → AddsEach old (old ++ x ∷ []) (x ∷ []) 1
one_more old x = record {
  keeps = λ y c. Contains-append_left old (x ∷ []) y c;
  each = λ j lt. let z : 0 ≡ j = omega arith in subst (λ (n : ℕ). Contains (old ++ x ∷ []) (get_or (x ∷ []) n 0)) z (Contains-push old x);
  only = λ y c. go y (Contains-push_cases old x y c);
}
  where
    go : (y : ℕ) → Contains old y ⊎ (x ≡ y) → Contains old y ⊎ Contains (x ∷ []) y
    go y (inl c) = inl c
    go y (inr e) = inr (contains_one x y e)

pub next_added : (first old new numbers : List ℕ) (x i : ℕ) → AddsEach first old numbers i → AddsEach old new (x ∷ []) 1 → i < length numbers → get_or numbers i 0 ≡ x → AddsEach first new numbers (i + 1)
next_added first old new numbers x i a b lt e = record {
  keeps = λ y c. b.keeps y (a.keeps y c);
  each = λ j le. each j le (cases_lt j i);
  only = λ y c. only y (b.only y c);
}
  where
    each : (j : ℕ) → j < i + 1 → (j < i) ⊎ (i ≤ j) → Contains new (get_or numbers j 0)
    each j le (inl low) = b.keeps (get_or numbers j 0) (a.each j low)
    each j le (inr high) = let q : i ≡ j = omega arith in subst (λ n. Contains new (get_or numbers n 0)) q (subst (Contains new) (sym e) (b.each 0 (omega arith)))

    of_numbers : (y : ℕ) → Contains (x ∷ []) y → Contains numbers y
    of_numbers y c =
        let z : c.0 ≡ 0 = let h = c.1 in omega arith in
        let q : x ≡ y = sym (ap (λ n. get_or (x ∷ []) n y) z) ∙ c.2 in
        (i, lt, get_or_default numbers i y 0 lt ∙ e ∙ q)

    only : (y : ℕ) → Contains old y ⊎ Contains (x ∷ []) y → Contains first y ⊎ Contains numbers y
    only y (inl c) = a.only y c
    only y (inr c) = inr (of_numbers y c)
