-- Where the slots of traits stand, and the trait at a place of a layout's table.
use Rattle.std.specs.Prelude.{ℕ, zero, suc, ◌+◌, List, [], ◌∷◌, Some, None, length, take}
use Rattle.std.specs.declared.option.Option.{Option}
use Rattle.std.specs.List.{flat_map}
use Rattle.abc_link_names.specs.Pool.{name, qname}
use Rattle.abc_link_names.specs.Linked.{LinkedFile, base_layout}
use Rattle.abc_link_names.specs.Slots.{slots_in}
use Rattle.abc_link_names.specs.Traits.{own_table_of}
use Rattle.abc_objects.specs.Traits.{Trait, members_in, slots_under, traits_named}
use Rattle.abc_objects.specs.declared.traits.Member.{Member}
use Rattle.abc_file_types.specs.declared.traits.TraitInfo.{TraitInfo}

-- how many slots some traits have
abbrev pub slots_in_traits : LinkedFile → List TraitInfo → ℕ
slots_in_traits l ts = length (flat_map (λ (t : TraitInfo). slots_in l t.body) ts)

-- where the slot of a trait of a layout stands: behind the base's and those of the traits before it
abbrev pub slot_of : LinkedFile → ℕ → ℕ → ℕ
slot_of l x p = slots_under l (base_layout l x) + slots_in_traits l (take p (own_table_of l x))

-- what the trait at a place of a table is, whose slots stand from a place on
abbrev pub trait_at : LinkedFile → ℕ → List TraitInfo → ℕ → List Trait
trait_at l slot [] p = []
trait_at l slot (t ∷ ts) zero = traits_named l (qname (name l.file t.name)) (members_in slot t.body)
trait_at l slot (t ∷ ts) (suc p) = trait_at l (slot + length (slots_in l t.body)) ts p

-- the same of a layout's own table
abbrev pub own_at : LinkedFile → ℕ → ℕ → List Trait
own_at l x p = trait_at l (slots_under l (base_layout l x)) (own_table_of l x) p

abbrev pub members_of : Option Member → List Member
members_of None = []
members_of (Some m) = m ∷ []
