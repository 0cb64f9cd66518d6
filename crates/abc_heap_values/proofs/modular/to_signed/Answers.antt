use Rattle.std.proofs.Common.{◌≡◌, ◌∙◌, ap, rules}
use Rattle.std.proofs.lemmas.Int.{to_z-of_z}
use Rattle.std.specs.Int.{cast_signed, w32, w64}
use Rattle.std.specs.Prelude.{FitsSigned}
use Rattle.abc_heap_values.specs.Modular.{modulo_unsigned}
use Rattle.abc_heap_values.proofs.Wrapping.{signed-bits}
use Rattle.abc_heap_values.proofs.modular.to_signed.Goals as goal

pub returns : goal.returns
returns c =
    let fits : FitsSigned w32 c.cast_signed.result = search rules in
    let bits : c.to_unsigned.result ≡ modulo_unsigned c.args.n = c.to_unsigned.ensures ∙ ap modulo_unsigned (to_z-of_z w64 c.args.n c.ranges.n) in
    to_z-of_z w32 c.cast_signed.result fits ∙ (c.cast_signed.ensures ∙ (ap (cast_signed w32) bits ∙ signed-bits c.args.n))
