-- Objects that have no declared traits, on which a name finds what they and their delegates have of their own.
use Rattle.std.specs.Prelude.{◌≡◌, ℕ, Bool, [], true, false}
use Rattle.abc_base.specs.declared.names.HostClass.{HostClass}
use Rattle.abc_base.specs.declared.names.HostClass.TheVariants as hosts
use Rattle.abc_heap_values.specs.declared.values.ObjId.{ObjId}
use Rattle.abc_heap_values.specs.declared.values.Value.TheVariants.{Obj}
use Rattle.abc_heap_store.specs.Heap.{Heap}
use Rattle.abc_link_names.specs.Linked.{LinkedFile}
use Rattle.abc_link_names.specs.declared.part.Part.{Part}
use Rattle.abc_link_names.specs.declared.part.Part.TheVariants as parts
use Rattle.abc_objects.specs.Candidates.{layout_at, traits}
use Rattle.abc_objects.specs.Searches.{found_on}
use Rattle.abc_objects.specs.Spaces.{name_holds_public}
use Rattle.abc_objects.specs.declared.found.Found.{Found}
use Rattle.abc_objects.specs.declared.found.Found.TheVariants.{Missing}
use Rattle.abc_objects.specs.declared.found.Want.{Want}
use Rattle.abc_objects.specs.declared.name.Name.{Name}

-- Object's instances and arrays have none
abbrev pub class_is_bare : HostClass → Bool
class_is_bare hosts.Object = true
class_is_bare hosts.Array = true
class_is_bare other = false

abbrev pub part_is_bare : Part → Bool
part_is_bare (parts.Host c) = class_is_bare c
part_is_bare other = false

-- neither a layout nor one above it has traits
abbrev pub HasNoTraits : LinkedFile → ℕ → Type 0
HasNoTraits l x = (object : ℕ) → traits l object x ≡ []

-- the object has none, and the name holds the public namespace or any
pub record IsWithoutTraits (l : LinkedFile) (h : Heap) (o : ObjId) (n : Name) : Type 0 where
  pub bare : HasNoTraits l (layout_at h o.0)
  pub public : name_holds_public l n.spaces ≡ true

-- what is found at once, if anything, is what every search finds
abbrev pub IsFoundFirst : LinkedFile → Heap → ObjId → Name → Found → Type 0
IsFoundFirst l h o n Missing = Unit {0}
IsFoundFirst l h o n found = (want : Want) → found ≡ found_on l h (Obj o) n want
