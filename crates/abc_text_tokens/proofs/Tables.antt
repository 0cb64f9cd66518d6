-- The tables of bytes.
use Rattle.std.proofs.Common.{◌≡◌, ℕ, ◌<◌, ◌||◌, List, get_or, if◌then◌else◌, map, refl, ap, ◌∙◌, arith}
use Rattle.std.specs.List.{range_with_len}
use Rattle.std.proofs.lemmas.List.FromFn.{get_or-map-range_with_len}
use Rattle.abc_text_lines.specs.Tokens.{is_run_byte}
use Rattle.abc_text_lines.specs.Operands.{is_digit, is_letter}
use Rattle.abc_text_tokens.specs.declared.bytes.TheConstants.{RUN_BYTES}
use Rattle.abc_text_tokens.specs.declared.names.TheConstants.{NAME_BYTES}

abbrev of_run : ℕ → ℕ
of_run byte = if is_run_byte byte then 0x31 else 0x30

abbrev of_name : ℕ → ℕ
of_name byte = if is_letter byte || is_digit byte then 0x31 else 0x30

same_run : RUN_BYTES ≡ map of_run (range_with_len 0 256)
same_run = refl

same_name : NAME_BYTES ≡ map of_name (range_with_len 0 256)
same_name = refl

pub run_is : (byte : ℕ) → byte < 256 → get_or RUN_BYTES byte 0 ≡ of_run byte
run_is byte less = ap (λ (l : List ℕ). get_or l byte 0) same_run ∙ get_or-map-range_with_len of_run 0 256 byte byte 0 less (omega arith)

pub name_is : (byte : ℕ) → byte < 256 → get_or NAME_BYTES byte 0 ≡ of_name byte
name_is byte less = ap (λ (l : List ℕ). get_or l byte 0) same_name ∙ get_or-map-range_with_len of_name 0 256 byte byte 0 less (omega arith)
