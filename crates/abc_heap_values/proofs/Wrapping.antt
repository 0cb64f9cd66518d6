-- The signed number is that of the unsigned one's bits.
use Rattle.std.proofs.Common.{◌≡◌, ℤ, refl}
use Rattle.std.specs.Int.{cast_signed, int_wrap, w32}
use Rattle.abc_heap_values.specs.Modular.{modulo_signed, modulo_unsigned}

pub signed-bits : (z : ℤ) → cast_signed w32 (modulo_unsigned z) ≡ modulo_signed z
unfolding int_wrap modulo_unsigned
signed-bits z = refl
