-- One step of reading a number.
use Rattle.std.proofs.Common.{◌≡◌, ℕ, zero, suc, ◌+◌, ◌-◌, ◌*◌, ◌/◌, ◌%◌, ◌^◌, ◌<◌, ◌≤◌, cond, ltb, length, inl, inr, Ok, refl, subst, arith}
use Rattle.std.proofs.lemmas.Bool.{cases_lt, le-ltb, lt-ltb}
use Rattle.abc_base.specs.Numbers.{groups_of, number_bytes}
use Rattle.abc_file_types.specs.Part.{At, ◌>>=◌}
use Rattle.abc_file_types.specs.Numbers.{u8, groups}

pub groups_step : (k start : ℕ) (from : At) → 0 < k
    → groups k start from ≡ u8.reads from >>= λ x. cond (ltb x.0 128) (Ok x) (groups (k - 1) start x.1 >>= λ y. Ok (x.0 % 128 + 128 * y.0, y.1))
unfolding u8
groups_step zero start from lt = absurd (omega arith)
groups_step (suc k) start from lt = let e : suc k - 1 ≡ k = omega arith in rw e refl

pub bound_step : (k x y : ℕ) → 0 < k → y < 128 ^ (k - 1) → x % 128 + 128 * y < 128 ^ k
bound_step zero x y lt h = absurd (omega arith)
bound_step (suc k) x y lt h =
    let e : suc k - 1 ≡ k = omega arith in
    let h2 : y < 128 ^ k = rw (← e) h in
    omega arith

one_le : (k : ℕ) → 1 ≤ 128 ^ k
one_le zero = omega arith
one_le (suc k) = omega (arith, one_le k)

pub bound_one : (k x : ℕ) → 0 < k → x < 128 → x < 128 ^ k
bound_one zero x lt h = absurd (omega arith)
bound_one (suc k) x lt h = omega (arith, one_le k)

-- five groups are 35 bits
pub bound_all : (k y : ℕ) → k ≤ 4 → y < 128 ^ k → y < 268435456
bound_all zero y le h = omega arith
bound_all (suc zero) y le h = omega arith
bound_all (suc (suc zero)) y le h = omega arith
bound_all (suc (suc (suc zero))) y le h = omega arith
bound_all (suc (suc (suc (suc k)))) y le h = let z : k ≡ 0 = omega arith in let h2 : y < 128 ^ 4 = subst (λ (n : ℕ). y < 128 ^ suc (suc (suc (suc n)))) z h in omega arith

-- ---- the fewest bytes

groups_up : (k x : ℕ) → length (groups_of k x) ≤ length (groups_of (suc k) x)
groups_up zero x = omega arith
groups_up (suc k) x = elim (cases_lt x 128) [
  | inl lt ↦ rw (lt-ltb x 128 lt) (omega arith)
  | inr ge ↦ let h = groups_up k (x / 128) in rw (le-ltb x 128 ge) (omega arith)
]

-- seven bits more take at most one byte more
number_step : (x y : ℕ) → length (number_bytes (x % 128 + 128 * y)) ≤ 1 + length (number_bytes y)
unfolding number_bytes
number_step x y = elim (cases_lt (x % 128 + 128 * y) 128) [
  | inl lt ↦ rw (lt-ltb (x % 128 + 128 * y) 128 lt) (omega arith)
  | inr ge ↦
      let same : (x % 128 + 128 * y) / 128 ≡ y = omega arith in
      let h = groups_up 4 y in
      rw (le-ltb (x % 128 + 128 * y) 128 ge, same) (omega arith)
]

pub few_step : (x y before here after : ℕ) → here ≡ before + 1 → here + length (number_bytes y) ≤ after → before + length (number_bytes (x % 128 + 128 * y)) ≤ after
few_step x y before here after one few = omega (arith, number_step x y)
