-- Whole numbers modulo 2 ^ 32 (a tool of other definitions).
use Rattle.std.specs.Prelude.{ℕ, ℤ, pos, ◌^◌, unsigned_abs}
use Rattle.std.specs.Int.{int_rem_euclid, int_wrap, w32}

-- the number from 0 to 2 ^ 32 - 1 that differs from z by a multiple of 2 ^ 32
unfoldable pub modulo_unsigned : ℤ → ℕ
modulo_unsigned z = unsigned_abs (int_rem_euclid z (pos (2 ^ 32)))

-- that from -2 ^ 31 to 2 ^ 31 - 1
abbrev pub modulo_signed : ℤ → ℤ
modulo_signed z = int_wrap w32 z
