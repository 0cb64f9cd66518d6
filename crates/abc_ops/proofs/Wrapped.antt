-- Whole numbers modulo 2 ^ 32, shifts and remainders.
use Rattle.std.proofs.Common.{◌≡◌, ℕ, suc, ◌-◌, ◌/◌, ◌%◌, ◌<◌, ◌≤◌, ℤ, pos, negsuc, ◌+ℤ◌, ◌*ℤ◌, ◌≤ℤ◌, inl, inr, arith}
use Rattle.std.proofs.Math.Nat.{mod-lt, mod-add-div}
use Rattle.std.proofs.lemmas.Bool.{cases_lt, le-ltb}
use Rattle.std.proofs.lemmas.Int.{SFits-int_wrap, ints}
use Rattle.std.specs.Int.{cast_signed, int_wrap, w32}
use Rattle.std.specs.Prelude.{int_rem}
use Rattle.abc_heap_values.specs.Modular.{modulo_signed, modulo_unsigned}

-- ---- modulo 2 ^ 32

pub unsigned_below : (n : ℤ) → modulo_unsigned n < 4294967296
unfolding modulo_unsigned
unsigned_below (pos a) = mod-lt a (omega arith)
unsigned_below (negsuc a) = omega arith

pub unsigned_turns : (n : ℤ) → (turns : ℤ) × (n ≡ pos (modulo_unsigned n) +ℤ turns *ℤ pos 4294967296)
unfolding modulo_unsigned
unsigned_turns (pos a) = (pos (a / 4294967296), omega (arith, ints, mod-add-div a 4294967296))
unsigned_turns (negsuc a) = (negsuc (a / 4294967296), omega (arith, ints, mod-add-div a 4294967296))

low_signed : (n : ℤ) → modulo_unsigned n < 2147483648 → modulo_signed n ≡ pos (modulo_unsigned n)
unfolding modulo_unsigned int_wrap
low_signed n h = omega (arith, ints)

high_bits : (u : ℕ) → 2147483648 ≤ u → cast_signed w32 u ≡ negsuc (4294967296 - suc u)
high_bits u h = rw (le-ltb u 2147483648 h)

high_signed : (n : ℤ) → 2147483648 ≤ modulo_unsigned n → modulo_signed n ≡ negsuc (4294967296 - suc (modulo_unsigned n))
unfolding modulo_unsigned int_wrap
high_signed n h = high_bits (modulo_unsigned n) h

one_turn_more : (n m t : ℤ) (u : ℕ) → u < 4294967296 → n ≡ pos u +ℤ t *ℤ pos 4294967296 → m ≡ negsuc (4294967296 - suc u) → n ≡ m +ℤ (t +ℤ pos 1) *ℤ pos 4294967296
one_turn_more n m t u b p q = omega (arith, ints)

same_turns : (n m t : ℤ) (u : ℕ) → n ≡ pos u +ℤ t *ℤ pos 4294967296 → m ≡ pos u → n ≡ m +ℤ t *ℤ pos 4294967296
same_turns n m t u p q = omega (arith, ints)

pub signed_turns : (n : ℤ) → (turns : ℤ) × (n ≡ modulo_signed n +ℤ turns *ℤ pos 4294967296)
signed_turns n =
    let t = unsigned_turns n in
    elim (cases_lt (modulo_unsigned n) 2147483648) [
      | inl low ↦ (t.0, same_turns n (modulo_signed n) t.0 (modulo_unsigned n) t.1 (low_signed n low))
      | inr high ↦ (t.0 +ℤ pos 1, one_turn_more n (modulo_signed n) t.0 (modulo_unsigned n) (unsigned_below n) t.1 (high_signed n high))
    ]

pub signed_low : (n : ℤ) → negsuc 2147483647 ≤ℤ modulo_signed n
signed_low n = omega (arith, ints, SFits-int_wrap w32 n)

pub signed_high : (n : ℤ) → modulo_signed n ≤ℤ pos 2147483647
signed_high n = omega (arith, ints, SFits-int_wrap w32 n)

-- ---- shifts

-- a number below 32 is its own distance
small_distance : (k : ℕ) → k < 32 → modulo_unsigned (pos k) % 32 ≡ k
unfolding modulo_unsigned
small_distance k h = omega arith

pub same_distance : (n : ℤ) → modulo_unsigned (pos (modulo_unsigned n % 32)) % 32 ≡ modulo_unsigned n % 32
same_distance n = small_distance (modulo_unsigned n % 32) (mod-lt (modulo_unsigned n) (omega arith))

-- ---- remainders

pub remainder_not_negative : (x y : ℤ) → pos 0 ≤ℤ x → pos 0 ≤ℤ int_rem x y
remainder_not_negative (pos a) y h = omega (arith, ints)
remainder_not_negative (negsuc a) y h = absurd (omega (arith, ints))

pub remainder_not_positive : (x y : ℤ) → x ≤ℤ pos 0 → int_rem x y ≤ℤ pos 0
remainder_not_positive (pos a) y h = omega (arith, ints)
remainder_not_positive (negsuc a) y h = omega (arith, ints)
