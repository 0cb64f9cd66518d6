-- The declared traits of layouts, in file order (Overview, chapter 4, "Trait"; profile: docs/MACHINE.md, "The search").
use Rattle.std.specs.Prelude.{ℕ, ◌+◌, List, [], ◌∷◌, ◌++◌, length, true, false, nat_eq, codes, Some, None, if◌then◌else◌}
use Rattle.std.specs.declared.option.Option.{Option}
use Rattle.abc_base.specs.declared.names.HostClass.TheVariants as hosts
use Rattle.abc_link_names.specs.Pool.{name, qname, text}
use Rattle.abc_link_names.specs.declared.named.DefiniteName.{DefiniteName}
use Rattle.abc_file_types.specs.declared.traits.TraitBody.{TraitBody}
use Rattle.abc_file_types.specs.declared.traits.TraitBody.TheVariants as bodies
use Rattle.abc_file_types.specs.declared.traits.TraitInfo.{TraitInfo}
use Rattle.abc_link_names.specs.Linked.{LinkedFile, base_layout}
use Rattle.abc_link_names.specs.Numbering.{part_at}
use Rattle.abc_link_names.specs.Slots.{handler_at, slots_in, slots_of, traits_of}
use Rattle.abc_link_names.specs.declared.part.Part.{Part}
use Rattle.abc_link_names.specs.declared.part.Part.TheVariants as parts
use Rattle.abc_objects.specs.declared.traits.Declared.{Declared}
use Rattle.abc_objects.specs.declared.traits.Member.{Member}
use Rattle.abc_objects.specs.declared.traits.Member.TheVariants as members
use Rattle.abc_objects.specs.declared.traits.TraitSpace.TheVariants as spaces

-- a declared trait with the text of its name
pub record Trait : Type 0 where
  pub text : List ℕ
  pub declared : Declared

-- what a trait is, whose slot would be the given one; the traits of functions are not run
abbrev pub members_in : ℕ → TraitBody → List Member
members_in slot (bodies.Slot id ty value constant) = members.Slot slot constant ∷ []
members_in slot (bodies.Class id k) = members.Slot slot true ∷ []
members_in slot (bodies.Method disp m) = members.Method m ∷ []
members_in slot (bodies.Getter disp m) = members.Getter m ∷ []
members_in slot (bodies.Setter disp m) = members.Setter m ∷ []
members_in slot (bodies.Function id m) = []

-- a trait of the name of an index of the pool
abbrev pub trait_named : LinkedFile → DefiniteName → Member → Trait
trait_named l d member = record { text = text l.file d.string; declared = record { space = spaces.Pool d.ns; member = member } }

abbrev pub traits_named : LinkedFile → DefiniteName → List Member → List Trait
traits_named l d [] = []
traits_named l d (member ∷ rest) = trait_named l d member ∷ traits_named l d rest

-- the traits of a table, whose slots stand from a place on
abbrev pub traits_from : LinkedFile → ℕ → List TraitInfo → List Trait
traits_from l slot [] = []
traits_from l slot (t ∷ ts) = traits_named l (qname (name l.file t.name)) (members_in slot t.body) ++ traits_from l (slot + length (slots_in l t.body)) ts

-- how many slots stand before the own ones
abbrev pub slots_under : LinkedFile → Option ℕ → ℕ
slots_under l None = 0
slots_under l (Some x) = length (slots_of l x)

-- a catch object has one slot, which has a name unless that is 0
abbrev pub caught_trait : LinkedFile → ℕ → ℕ → List Trait
caught_trait l slot n = if nat_eq n 0 then [] else trait_named l (qname (name l.file n)) (members.Slot slot false) ∷ []

-- the own traits of a part: every class object has the public constant slot `prototype`
abbrev pub own_traits_of : LinkedFile → ℕ → Part → List Trait
own_traits_of l slot (parts.Host hosts.Class) = record { text = codes "prototype"; declared = record { space = spaces.Public; member = members.Slot slot true } } ∷ []
own_traits_of l slot (parts.Catch b e) = caught_trait l slot (handler_at l.file b e).var_name
own_traits_of l slot p = traits_from l slot (traits_of l.file p)

abbrev pub own : LinkedFile → ℕ → List Trait
own l x = own_traits_of l (slots_under l (base_layout l x)) (part_at l.parts x)
