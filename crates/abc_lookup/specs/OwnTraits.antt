-- The own traits of a layout that have the text of a name, and the one that fits it whatever is passed over.
use Rattle.std.specs.Prelude.{◌≡◌, ℕ, List, Bool}
use Rattle.abc_base.specs.declared.names.HostClass.TheVariants as hosts
use Rattle.abc_heap_store.specs.Heap.{Heap}
use Rattle.abc_link_names.specs.Linked.{LinkedFile, base_layout}
use Rattle.abc_link_names.specs.Traits.{own_table_of}
use Rattle.abc_link_names.specs.declared.part.Part.{Part}
use Rattle.abc_link_names.specs.declared.part.Part.TheVariants as parts
use Rattle.abc_objects.specs.Candidates.{text_of_span}
use Rattle.abc_objects.specs.Traits.{Trait, slots_under, traits_from}
use Rattle.abc_objects.specs.declared.found.Skip.{Skip}
use Rattle.abc_objects.specs.declared.name.Name.{Name}
use Rattle.abc_objects.specs.declared.traits.Member.{Member}
use Rattle.abc_lookup.specs.Steps.{gives_found, member_found, with_text}

abbrev pub own_named : LinkedFile → Heap → ℕ → Name → List Trait
own_named l h x n = with_text (text_of_span l h n.text) (traits_from l (slots_under l (base_layout l x)) (own_table_of l x))

-- some traits of a layout give a name this member, unless it is passed over
abbrev pub GivesMember : LinkedFile → Name → ℕ → List Trait → Member → Type 0
GivesMember l n x ts m = (s : Skip) (held : Bool) → member_found l s m ≡ gives_found l n s x held ts

-- all traits of a layout of such a part stand in its table
pub record HasTable (part : Part) : Type 0 where
  pub no_class : part ≡ parts.Host hosts.Class → ⊥
  pub no_catch : (b e : ℕ) → part ≡ parts.Catch b e → ⊥
