-- For the prover alone: where the starts of canonical code come to take one byte more.
use Rattle.std.specs.Prelude.{ℕ, ◌^◌, ◌<◌, ◌≤◌, List, length}
use Rattle.abc_tables.specs.declared.body_lengths.Widths.{Widths}
use Rattle.abc_file_types.specs.declared.code.Instr.{Instr}
use Rattle.abc_file_types.specs.CodeBytes.{with_lengths}
use Rattle.abc_file_types.specs.Starts.{start}

-- The first place, an instruction or the end, that starts at the limit or after it.
pub record IsFirstFrom (code : List Instr) (limit first : ℕ) : Type 0 where
  pub from : (t : ℕ) → t ≤ length code → first ≤ t → limit ≤ start (with_lengths code) t
  pub before : (t : ℕ) → t ≤ length code → t < first → start (with_lengths code) t < limit

-- The starts have two bytes from the first of these places on, three from the second on, and so on.
pub record AreWidths (code : List Instr) (s : Widths) : Type 0 where
  pub two : IsFirstFrom code (2 ^ 7) s.two
  pub three : IsFirstFrom code (2 ^ 14) s.three
  pub four : IsFirstFrom code (2 ^ 21) s.four
  pub five : IsFirstFrom code (2 ^ 28) s.five
