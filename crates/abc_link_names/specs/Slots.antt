-- The slots of layouts, and their numbers (Overview, chapter 4, "Trait"; profile: docs/LINKING.md, "Slots").
use Rattle.std.specs.Prelude.{ℕ, ◌<◌, ◌^◌, List, [], ◌∷◌, true, false, Some, None, if◌then◌else◌, get_or, length, nat_eq, unwrap_or}
use Rattle.std.specs.declared.option.Option.{Option}
use Rattle.std.specs.List.{flat_map}
use Rattle.abc_base.specs.declared.names.HostClass.TheVariants as hosts
use Rattle.abc_base_graphs.specs.Heirs.{heritage}
use Rattle.abc_base_graphs.specs.Index.{first}
use Rattle.abc_link_names.specs.Numbering.{part_at}
use Rattle.abc_link_names.specs.declared.part.Part.{Part}
use Rattle.abc_link_names.specs.declared.part.Part.TheVariants as parts
use Rattle.abc_link_names.specs.Instances.{instance_at}
use Rattle.abc_link_names.specs.Meaning.{type_named}
use Rattle.abc_link_names.specs.PartsByNumber.{body_at, class_at, script_at}
use Rattle.abc_link_names.specs.Starts.{default_of, start_of}
use Rattle.abc_link_names.specs.ItemTypes.{type_or_any}
use Rattle.abc_link_names.specs.declared.start.Start.TheVariants as starts
use Rattle.abc_file_types.specs.declared.code.Handler.{Handler}
use Rattle.abc_file_types.specs.declared.tables.Abc.{Abc}
use Rattle.abc_file_types.specs.declared.traits.TraitBody.{TraitBody}
use Rattle.abc_file_types.specs.declared.traits.TraitBody.TheVariants as traits
use Rattle.abc_file_types.specs.declared.traits.TraitInfo.{TraitInfo}
use Rattle.abc_link_names.specs.Linked.{LinkedFile, base_layout, layout_of}
use Rattle.abc_link_names.specs.Types.{type_in}
use Rattle.abc_link_names.specs.declared.types.SlotInfo.{SlotInfo}
use Rattle.abc_link_names.specs.declared.types.Ty.TheVariants as types

-- the own table of traits of a part; those of the host and catch objects have none
abbrev pub traits_of : Abc → Part → List TraitInfo
traits_of v (parts.Instance k) = (instance_at v k).traits
traits_of v (parts.ClassObject k) = (class_at v k).traits
traits_of v (parts.Global s) = (script_at v s).traits
traits_of v (parts.Activation b) = (body_at v b).traits
traits_of v other = []

abbrev pub no_handler : Handler
no_handler = record { from = 0; to = 0; target = 0; exc_type = 0; var_name = 0 }

abbrev pub handler_at : Abc → ℕ → ℕ → Handler
handler_at v b e = get_or (body_at v b).handlers e no_handler

-- ---- the slot of a trait, if it has one

abbrev pub slots_in : LinkedFile → TraitBody → List SlotInfo
slots_in l (traits.Slot id ty value constant) =
    let t = type_or_any (type_named l.file ty) in
    record { ty = type_in l t; constant = constant; start = unwrap_or (start_of l.file t value) starts.Undefined } ∷ []
slots_in l (traits.Class id k) = record { ty = types.Of (layout_of l (parts.ClassObject k)); constant = true; start = starts.Null } ∷ []
slots_in l other = []

abbrev pub slot_numbers_in : TraitBody → List ℕ
slot_numbers_in (traits.Slot id ty value constant) = id ∷ []
slot_numbers_in (traits.Class id k) = id ∷ []
slot_numbers_in other = []

-- ---- the own slots of a part, and their numbers; 0 is none

abbrev pub own_slots : LinkedFile → Part → List SlotInfo
own_slots l (parts.Host hosts.Class) = record { ty = types.Object; constant = true; start = starts.Null } ∷ []
own_slots l (parts.Catch b e) =
    let t = type_or_any (type_named l.file (handler_at l.file b e).exc_type) in
    record { ty = type_in l t; constant = false; start = default_of t } ∷ []
own_slots l p = flat_map (λ t. slots_in l t.body) (traits_of l.file p)

abbrev pub own_numbers : LinkedFile → Part → List ℕ
own_numbers l (parts.Host hosts.Class) = 0 ∷ []
own_numbers l (parts.Catch b e) = 1 ∷ []
own_numbers l p = flat_map (λ t. slot_numbers_in t.body) (traits_of l.file p)

-- ---- with what is inherited

-- all slots of the layout x: those of its bases, the highest base first, and then its own
abbrev pub slots_of : LinkedFile → ℕ → List SlotInfo
slots_of l x = heritage (base_layout l) (λ y. own_slots l (part_at l.parts y)) (Some x)

abbrev pub slot_numbers_of : LinkedFile → ℕ → List ℕ
slot_numbers_of l x = heritage (base_layout l) (λ y. own_numbers l (part_at l.parts y)) (Some x)

-- the first slot of a number above 0, so an inherited one wins
abbrev pub slot_numbered : LinkedFile → ℕ → ℕ → Option ℕ
slot_numbered l x k = if nat_eq k 0 then None else first (nat_eq k) (slot_numbers_of l x)

-- the slots of each layout can be counted by 32 bits
abbrev pub HasFewSlots : LinkedFile → Type 0
HasFewSlots l = (x : ℕ) → x < length l.parts → length (slots_of l x) < 2 ^ 32
