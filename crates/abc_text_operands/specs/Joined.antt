-- Two values that are read one after the other, with the first of their faults.
use Rattle.std.specs.Prelude.{nat_le, Ok, Err, List, if◌then◌else◌}
use Rattle.std.specs.declared.result.Result.{Result}
use Rattle.abc_text_lines.specs.declared.reason.AsmReason.{AsmReason}
use Rattle.abc_text_lines.specs.Reasons.{least, rank_of_reason}
use Rattle.abc_text_lines.specs.Tokens.{Token}
use Rattle.abc_text_lines.specs.Firsts.{value_or_reason}
use Rattle.abc_text_lines.specs.Lines.{Label}
use Rattle.abc_text_lines.specs.Operands.{Operands, reasons_of}

-- the reason r, or the reason of the result where that one is tried earlier
abbrev pub earlier_reason : {B : Type 0} → AsmReason → Result B AsmReason → AsmReason
earlier_reason r (Ok y) = r
earlier_reason r (Err s) = if nat_le (rank_of_reason r) (rank_of_reason s) then r else s

-- both values, or the first reason of those that either has
abbrev pub both_or_reason : {A B : Type 0} → Result A AsmReason → Result B AsmReason → Result (A × B) AsmReason
both_or_reason (Ok x) (Ok y) = Ok (x, y)
both_or_reason (Ok x) (Err s) = Err s
both_or_reason (Err r) s = Err (earlier_reason r s)

-- a value as another; a fault stays
abbrev pub map_operand : {A B : Type 0} → (A → B) → Result A AsmReason → Result B AsmReason
map_operand f (Ok x) = Ok (f x)
map_operand f (Err r) = Err r

-- what a line's operands say: their value, or the first of their faults
abbrev pub line_result : {A : Type 0} → Operands A → List Label → List Token → Result A AsmReason
line_result p labels tokens = value_or_reason (least (reasons_of p labels tokens)) (p.value labels tokens)
