-- What is computed of whole numbers modulo 2 ^ 32. All results but that of the unsigned shift are signed
-- (Overview, chapter 5; profile: docs/MACHINE.md, "Values, conversions and operations").
use Rattle.std.specs.Prelude.{ℕ, ℤ, pos, ◌+ℤ◌, ◌-ℤ◌, ◌*ℤ◌, neg_ℤ, ◌/◌, ◌%◌, ◌^◌, bit_and, bit_or, bit_xor}
use Rattle.std.specs.Int.{bit_not, cast_signed, int_shl, int_shr, w32}
use Rattle.abc_heap_values.specs.Modular.{modulo_signed, modulo_unsigned}

-- the sum modulo 2 ^ 32
abbrev pub whole_sum : ℤ → ℤ → ℤ
whole_sum x y = modulo_signed (modulo_signed x +ℤ modulo_signed y)

-- the left less the right, modulo 2 ^ 32
abbrev pub whole_difference : ℤ → ℤ → ℤ
whole_difference x y = modulo_signed (modulo_signed x -ℤ modulo_signed y)

-- the product modulo 2 ^ 32
abbrev pub whole_product : ℤ → ℤ → ℤ
whole_product x y = modulo_signed (modulo_signed x *ℤ modulo_signed y)

-- the number with the other sign, modulo 2 ^ 32
abbrev pub whole_negated : ℤ → ℤ
whole_negated x = modulo_signed (neg_ℤ (modulo_signed x))

-- ---- bits: those of the unsigned number, read as a signed one

-- each bit inverted: bitnot
abbrev pub bits_turned : ℤ → ℤ
bits_turned x = cast_signed w32 (bit_not w32 (modulo_unsigned x))

-- the bits that both numbers have: bitand
abbrev pub bits_in_both : ℤ → ℤ → ℤ
bits_in_both x y = cast_signed w32 (bit_and (modulo_unsigned x) (modulo_unsigned y))

-- the bits that one or both of the numbers have: bitor
abbrev pub bits_in_either : ℤ → ℤ → ℤ
bits_in_either x y = cast_signed w32 (bit_or (modulo_unsigned x) (modulo_unsigned y))

-- the bits that exactly one of the numbers has: bitxor
abbrev pub bits_in_one : ℤ → ℤ → ℤ
bits_in_one x y = cast_signed w32 (bit_xor (modulo_unsigned x) (modulo_unsigned y))

-- ---- shifts, by the low five bits of the right

abbrev pub distance : ℤ → ℕ
distance y = modulo_unsigned y % 32

-- x shifted to the left; bits above the lowest 32 are lost
abbrev pub shifted_left : ℤ → ℤ → ℤ
shifted_left x y = int_shl w32 (modulo_signed x) (distance y)

-- the quotient by a power of two, rounded down
abbrev pub shifted_right : ℤ → ℤ → ℤ
shifted_right x y = int_shr (modulo_signed x) (distance y)

-- x, read as unsigned, shifted to the right; the result is unsigned
abbrev pub shifted_right_unsigned : ℤ → ℤ → ℤ
shifted_right_unsigned x y = pos (modulo_unsigned x / 2 ^ distance y)
