use Rattle.std.proofs.Common.{◌≡◌, ◌||◌, drop}
use Rattle.std.specs.List.{list_all}
use Rattle.abc_text_lines.specs.Operands.{is_digit, is_letter}
use Rattle.abc_text_tokens.proofs.names.are_of_names.Given as goal

abbrev pub invariant-loop-byte : goal.invariant-loop-byte
invariant-loop-byte l = list_all (λ b. is_letter b || is_digit b) l.bytes ≡ list_all (λ b. is_letter b || is_digit b) (drop l.byte-index l.bytes)
