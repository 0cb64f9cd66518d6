-- The levels of a tree: a node that stands for leaves alone that lie in a range stands for no others on any level.
use Rattle.std.proofs.Common.{◌≡◌, ℕ, zero, suc, ◌*◌, ◌/◌, ◌≤◌, ◌<◌, refl, sym, ap, ◌∙◌, subst, arith, inl, inr}
use Rattle.std.proofs.lemmas.Bool.{cases_lt, cases_order}
use Rattle.abc_base_trees.specs.Hung.{levels_above}

pub up_low : (j x : ℕ) → levels_above j x ≤ x
up_low zero x = omega arith
up_low (suc j) x = let r = up_low j x in omega arith

up_in : (j x : ℕ) → levels_above (suc j) x ≡ levels_above j (x / 2)
up_in zero x = refl
up_in (suc j) x = ap (λ (n : ℕ). n / 2) (up_in j x)

-- above the top there is nothing
pub up_past : (i j x : ℕ) → j ≤ i → levels_above j x ≡ 0 → levels_above i x ≡ 0
up_past zero j x h e = let q : j ≡ 0 = omega arith in subst (λ (k : ℕ). levels_above k x ≡ 0) q e
up_past (suc i) j x h e = elim (cases_lt i j) [
  | inl lt ↦ (let q : j ≡ suc i = omega arith in subst (λ (k : ℕ). levels_above k x ≡ 0) q e)
  | inr le ↦ (let r = up_past i j x le e in omega arith)
]

halved : (x : ℕ) → (2 * x) / 2 ≡ x
halved x = omega arith

-- on a lower level
lower : (i j n m x : ℕ) → ((z : ℕ) → levels_above i z ≡ m → z < 2 * n) → j < i → levels_above j x ≡ m → x < n
lower zero j n m x most h e = absurd (omega arith)
lower (suc i) j n m x most h e = elim (cases_lt j i) [
  | inl lt ↦ lower i j n m x (λ z q. let a = half z q in omega arith) lt e
  | inr le ↦ (let q : j ≡ i = omega arith in half x (subst (λ (k : ℕ). levels_above k x ≡ m) q e))
]
  where
    half : (z : ℕ) → levels_above i z ≡ m → z < n
    half z q = let a = most (2 * z) (up_in i (2 * z) ∙ ap (levels_above i) (halved z) ∙ q) in omega arith

-- on a higher level
higher : (i j n m x : ℕ) → ((z : ℕ) → levels_above i z ≡ m → n ≤ z) → i < j → x < 2 * n → levels_above j x ≡ m → ⊥
higher i zero n m x least h lt e = absurd (omega arith)
higher i (suc j) n m x least h lt e = elim (cases_lt i j) [
  | inl lu ↦ higher i j n m (x / 2) least lu (omega arith) (sym (up_in j x) ∙ e)
  | inr le ↦ (let q : j ≡ i = omega arith in let a = least (x / 2) (subst (λ (k : ℕ). levels_above k (x / 2) ≡ m) q (sym (up_in j x) ∙ e)) in omega arith)
]

pub only_these : (from to n i m : ℕ) → n ≤ from → to ≤ 2 * n → ((z : ℕ) → levels_above i z ≡ m → (from ≤ z) × (z < to)) → (j x : ℕ) → n ≤ x → x < 2 * n → levels_above j x ≡ m → (from ≤ x) × (x < to)
only_these from to n i m low high all j x a b e = elim (cases_order i j) [
  | inl q ↦ all x (subst (λ (k : ℕ). levels_above k x ≡ m) (sym q) e)
  | inr (inl lt) ↦ absurd (higher i j n m x (λ z q. let r = (all z q).0 in omega arith) lt b e)
  | inr (inr lt) ↦ absurd (let r = lower i j n m x (λ z q. let r = (all z q).1 in omega arith) lt e in omega arith)
]
