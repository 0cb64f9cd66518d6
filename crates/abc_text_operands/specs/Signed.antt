-- Signed numbers in their range.
use Rattle.std.specs.Prelude.{ℕ, ℤ, pos, negsuc, ◌-◌, ◌&&◌, int_le}
use Rattle.std.specs.declared.result.Result.{Result}
use Rattle.abc_text_lines.specs.declared.reason.AsmReason.{AsmReason}
use Rattle.abc_text_lines.specs.declared.reason.AsmReason.TheVariants as reasons
use Rattle.abc_text_lines.specs.Operands.{test_result}

-- from -limit to limit - 1
abbrev pub in_signed_range : ℕ → Result ℤ AsmReason → Result ℤ AsmReason
in_signed_range limit r = test_result (λ z. int_le (negsuc (limit - 1)) z && int_le z (pos (limit - 1))) reasons.Range r
