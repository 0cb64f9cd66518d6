-- The value at the place of a value.
use Rattle.std.proofs.Common.{◌≡◌, ℕ, zero, suc, ◌+◌, ◌<◌, inl, inr, List, [], ◌∷◌, Contains, get_or, length, Bool, true, false, if◌then◌else◌, Some, unwrap_or, Decides, refl, sym, ap, subst, ◌∙◌, arith, true≢false}
use Rattle.abc_base_graphs.specs.Index.{first_from}
use Rattle.abc_tidy_entries.specs.Entries.{place_among}
use Rattle.abc_base_trees.specs.Orders.{StandsIn}

found_from : {A : Type 0} (eq : A → A → Bool) → ((x y : A) → Decides (eq x y) (x ≡ y)) → (x d : A) (xs : List A) (i : ℕ) → StandsIn x xs → (k : ℕ) × (first_from (eq x) i xs ≡ Some (i + k)) × (get_or xs k d ≡ x)
found_from eq ok x d [] i h = absurd h
found_from {A} eq ok x d (y ∷ ys) i h = by (eq x y) refl h (found_from eq ok x d ys (i + 1))
  where
    step : (b : Bool) → eq x y ≡ b → first_from (eq x) i (y ∷ ys) ≡ (if b then Some i else first_from (eq x) (i + 1) ys)
    step b e = ap (λ b. if b then Some i else first_from (eq x) (i + 1) ys) e

    later : (k : ℕ) × (first_from (eq x) (i + 1) ys ≡ Some (i + 1 + k)) × (get_or ys k d ≡ x) → eq x y ≡ false → (k : ℕ) × (first_from (eq x) i (y ∷ ys) ≡ Some (i + k)) × (get_or (y ∷ ys) k d ≡ x)
    later r e = let q : i + 1 + r.0 ≡ i + suc r.0 = omega arith in (suc r.0, step false e ∙ r.1 ∙ ap Some q, r.2)

    by : (b : Bool) → eq x y ≡ b → StandsIn x (y ∷ ys) → (StandsIn x ys → (k : ℕ) × (first_from (eq x) (i + 1) ys ≡ Some (i + 1 + k)) × (get_or ys k d ≡ x)) → (k : ℕ) × (first_from (eq x) i (y ∷ ys) ≡ Some (i + k)) × (get_or (y ∷ ys) k d ≡ x)
    by true e h rest = let q : i ≡ i + zero = omega arith in (zero, step true e ∙ ap Some q, sym ((ok x y).0 e))
    by false e (inl same) rest = absurd (true≢false (sym ((ok x y).1 same) ∙ e))
    by false e (inr h) rest = later (rest h) e

pub place_found : {A : Type 0} (eq : A → A → Bool) → ((x y : A) → Decides (eq x y) (x ≡ y)) → (x d : A) (xs : List A) → StandsIn x xs → get_or xs (place_among eq xs x) d ≡ x
place_found eq ok x d xs h =
    let r = found_from eq ok x d xs 0 h in
    let q : 0 + r.0 ≡ r.0 = omega arith in
    ap (λ k. get_or xs k d) (ap (λ o. unwrap_or o 0) r.1 ∙ q) ∙ r.2

-- values with one place are one
pub one_place : {A : Type 0} (eq : A → A → Bool) → ((x y : A) → Decides (eq x y) (x ≡ y)) → (x y d : A) (xs : List A) → StandsIn x xs → StandsIn y xs → place_among eq xs x ≡ place_among eq xs y → x ≡ y
one_place eq ok x y d xs p q e = sym (place_found eq ok x d xs p) ∙ ap (λ k. get_or xs k d) e ∙ place_found eq ok y d xs q
