-- How many slots stand before those of each trait of a table.
use Rattle.std.specs.Prelude.{◌≡◌, ℕ, ◌+◌, List, [], ◌∷◌, Bool, true, false, if◌then◌else◌, map}
use Rattle.abc_link_names.specs.Slots.{traits_of}
use Rattle.abc_link_names.specs.declared.part.Part.{Part}
use Rattle.abc_link.specs.declared.slots.OwnSlots.{OwnSlots}
use Rattle.abc_file_types.specs.declared.tables.Abc.{Abc}
use Rattle.abc_file_types.specs.declared.traits.TraitBody.{TraitBody}
use Rattle.abc_file_types.specs.declared.traits.TraitBody.TheVariants as bodies
use Rattle.abc_file_types.specs.declared.traits.TraitInfo.{TraitInfo}

abbrev pub is_slot_trait : TraitBody → Bool
is_slot_trait (bodies.Slot id ty value constant) = true
is_slot_trait (bodies.Class id k) = true
is_slot_trait other = false

-- the same, where so many stand before all of them
abbrev pub slots_from : ℕ → List TraitInfo → List ℕ
slots_from n [] = []
slots_from n (t ∷ ts) = n ∷ slots_from (if is_slot_trait t.body then n + 1 else n) ts

-- for each of some traits, how many of those before it have a slot
abbrev pub slots_before : List TraitInfo → List ℕ
slots_before ts = slots_from 0 ts

-- those of the own traits of each part
abbrev pub own_slots_before : Abc → List Part → List (List ℕ)
own_slots_before v parts = map (λ (p : Part). slots_before (traits_of v p)) parts

-- The table has for each own trait of each part how many of the traits before it there have a slot.
pub record HasOwnSlots (v : Abc) (parts : List Part) (s : OwnSlots) : Type 0 where
  pub rows : s.rows ≡ own_slots_before v parts
