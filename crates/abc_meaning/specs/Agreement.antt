-- The acts beside the rows: an instruction has an act where it has a row, and no other has one.
use Rattle.std.specs.Prelude.{◌≡◌, ℕ, ◌<◌, Bool, is_some}
use Rattle.abc_verify_typing.specs.Rows.{row_at}
use Rattle.abc_meaning.specs.Table.{act_of}

unfoldable pub has_row : ℕ → Bool
has_row op = is_some (row_at op)

unfoldable pub has_act : ℕ → Bool
has_act op = is_some (act_of op)

-- an opcode has an act exactly where it has a row
abbrev pub HasEveryAct : Type 0
HasEveryAct = (op : ℕ) → op < 256 → has_act op ≡ has_row op
