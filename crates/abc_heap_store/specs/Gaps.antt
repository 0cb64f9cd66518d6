-- Empty positions that lie side by side.
use Rattle.std.specs.Prelude.{◌≡◌, ℕ, ◌+◌, ◌<◌, ◌≤◌, List, Option, Some, None, slice_get}
use Rattle.abc_heap_values.specs.declared.values.Span.{Span}
use Rattle.abc_heap_values.specs.declared.values.Value.{Value}
use Rattle.abc_heap_values.specs.declared.cell.Cell.{Cell}
use Rattle.abc_heap_values.specs.declared.cell.Held.{Held}
use Rattle.abc_heap_values.specs.declared.cell.Held.TheVariants.{Slot, Property, Deleted, Element}
use Rattle.abc_heap_values.specs.Lanes.{properties}

-- how many positions are known to be empty from that of a cell on
abbrev pub empty_in : Held → ℕ
empty_in (Slot v) = 0
empty_in (Property n v) = 0
empty_in (Deleted n) = n
empty_in (Element v) = 0

-- n places from place k on are empty
abbrev pub AreEmpty : List (Option (Span × Value)) → ℕ → ℕ → Type 0
AreEmpty ps k n = (j : ℕ) → k ≤ j → j < k + n → slice_get ps j ≡ Some None

-- an emptied cell knows of its own position, and of as many after it as it tells
pub record IsGap (cells : List Cell) (c : Cell) (n : ℕ) : Type 0 where
  pub some : 0 < n
  pub empty : AreEmpty (properties c.owner cells) c.position n

-- each cell of a deleted property tells how many positions from its own on are empty, and it is so
abbrev pub AreGaps : List Cell → Type 0
AreGaps cells = (i : ℕ) (c : Cell) (n : ℕ) → slice_get cells i ≡ Some c → c.held ≡ Deleted n → IsGap cells c n
