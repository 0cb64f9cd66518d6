-- Sums that stop at the greatest number of 64 bits.
use Rattle.std.proofs.Common.{◌≡◌, ◌≢◌, ℕ, ◌+◌, ◌-◌, ◌^◌, inl, inr, min, List, [], ◌∷◌, length, refl, sym, ap, ◌∙◌, arith}
use Rattle.std.proofs.lemmas.Bool.{cases_lt}
use Rattle.abc_base.proofs.Spelling.{length_1}
use Rattle.abc_file_types.specs.Canonical.{pool_count}
use Rattle.abc_file_types.specs.CodeBytes.{number_len}
use Rattle.abc_tables.specs.Lengths.{counted_len}
use Rattle.abc_file_types.proofs.Lengths.{number_five}

-- the sum of two that stop is the sum, stopped
pub both_capped : (x y r s : ℕ) → r ≡ min x (2 ^ 64 - 1) → s ≡ min y (2 ^ 64 - 1) → min (r + s) (2 ^ 64 - 1) ≡ min (x + y) (2 ^ 64 - 1)
both_capped x y r s e f = omega arith

-- numbers that stop there have five bytes
capped_number : (n : ℕ) → number_len (min n (2 ^ 64 - 1)) ≡ number_len n
capped_number n = elim (cases_lt n (2 ^ 64)) [
  | inl lt ↦ ap number_len (omega arith)
  | inr ge ↦ number_five (min n (2 ^ 64 - 1)) (omega arith) ∙ sym (number_five n (omega arith))
]

some_count : {A : Type 0} (xs : List A) → length xs ≢ 0 → length xs + 1 ≡ pool_count xs
some_count [] some = absurd (some refl)
some_count (x ∷ xs) some = omega arith

pub empty_pool : {A : Type 0} (xs : List A) → length xs ≡ 0 → number_len (pool_count xs) ≡ 1
empty_pool [] e = length_1 0 (omega arith)
empty_pool (x ∷ xs) e = absurd (omega arith)

pub counted_pool : {A : Type 0} (xs : List A) → length xs ≢ 0 → number_len (min (length xs + 1) (2 ^ 64 - 1)) ≡ number_len (pool_count xs)
counted_pool xs some = capped_number (length xs + 1) ∙ ap number_len (some_count xs some)

-- an empty list has its count alone
pub empty_list : {A : Type 0} (f : A → ℕ) (xs : List A) → length xs ≡ 0 → min (counted_len f xs) (2 ^ 64 - 1) ≡ 1
empty_list f [] e = omega (arith, length_1 0 (omega arith))
empty_list f (x ∷ xs) e = absurd (omega arith)
