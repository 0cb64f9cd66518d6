-- The slots of layouts, as a table.
use Rattle.std.specs.Prelude.{◌≡◌, ℕ, List, length}
use Rattle.abc_base_graphs.specs.Heirs.{AreHeirs}
use Rattle.abc_base_graphs.specs.Listed.{Listed}
use Rattle.abc_link_names.specs.Linked.{LinkedFile, base_layout}
use Rattle.abc_link_names.specs.Numbering.{part_at}
use Rattle.abc_link_names.specs.Slots.{own_numbers, own_slots}
use Rattle.abc_link_names.specs.declared.types.SlotInfo.{SlotInfo}

-- the slots of the first n layouts, and their numbers
pub record HasSlots (l : LinkedFile) (lists : List (Listed SlotInfo)) (n : ℕ) : Type 0 where
  pub len : length lists ≡ n
  pub heirs : AreHeirs (base_layout l) (λ y. own_slots l (part_at l.parts y)) (λ y. own_numbers l (part_at l.parts y)) lists
