-- Which namespaces a name holds (Overview, chapter 2; profile: docs/MACHINE.md, "The search").
use Rattle.std.specs.Prelude.{ℕ, Bool, true, false, nat_eq, Some, None, if◌then◌else◌}
use Rattle.std.specs.declared.option.Option.{Option}
use Rattle.std.specs.List.{list_any}
use Rattle.abc_link_names.specs.Instances.{instance_at}
use Rattle.abc_link_names.specs.Pool.{is_public, same_space, set}
use Rattle.abc_link_names.specs.Linked.{LinkedFile}
use Rattle.abc_link_names.specs.Numbering.{part_at}
use Rattle.abc_link_names.specs.declared.part.Part.{Part}
use Rattle.abc_link_names.specs.declared.part.Part.TheVariants as parts
use Rattle.abc_objects.specs.declared.name.Spaces.{Spaces}
use Rattle.abc_objects.specs.declared.name.Spaces.TheVariants as forms
use Rattle.abc_objects.specs.declared.traits.TraitSpace.{TraitSpace}
use Rattle.abc_objects.specs.declared.traits.TraitSpace.TheVariants as spaces

-- a name holds the public namespace
abbrev pub name_holds_public : LinkedFile → Spaces → Bool
name_holds_public l forms.Any = true
name_holds_public l forms.Public = true
name_holds_public l (forms.One a) = is_public l.file a
name_holds_public l (forms.Set k) = list_any (is_public l.file) (set l.file k)

-- one of the namespaces of a name is equal to a namespace of the pool
abbrev pub holds_pooled : LinkedFile → Spaces → ℕ → Bool
holds_pooled l forms.Any s = true
holds_pooled l forms.Public s = is_public l.file s
holds_pooled l (forms.One a) s = same_space l.file s a
holds_pooled l (forms.Set k) s = list_any (same_space l.file s) (set l.file k)

-- a name holds the namespace of a trait
abbrev pub holds_trait_space : LinkedFile → Spaces → TraitSpace → Bool
holds_trait_space l n spaces.Public = name_holds_public l n
holds_trait_space l n (spaces.Pool s) = holds_pooled l n s

-- ---- protected namespaces

-- index 0 is none
abbrev pub above_zero : Option ℕ → Option ℕ
above_zero None = None
above_zero (Some n) = if nat_eq n 0 then None else Some n

-- a class of the file may have one for its instances
abbrev pub protected_in : LinkedFile → Part → Option ℕ
protected_in l (parts.Instance k) = above_zero (instance_at l.file k).protected_ns
protected_in l other = None

-- the protected namespace of the class whose instances have layout x, if it has one
abbrev pub protected_of : LinkedFile → ℕ → Option ℕ
protected_of l x = protected_in l (part_at l.parts x)

abbrev pub holds_some : LinkedFile → Spaces → Option ℕ → Bool
holds_some l n None = false
holds_some l n (Some p) = holds_pooled l n p

-- a name holds the protected namespace of a layout's class
abbrev pub holds_protected : LinkedFile → Spaces → ℕ → Bool
holds_protected l n x = holds_some l n (protected_of l x)

abbrev pub is_that_space : LinkedFile → Option ℕ → TraitSpace → Bool
is_that_space l None s = false
is_that_space l (Some p) spaces.Public = is_public l.file p
is_that_space l (Some p) (spaces.Pool s) = same_space l.file p s

-- the namespace of a trait is the protected one of its layout's class
abbrev pub is_protected : LinkedFile → ℕ → TraitSpace → Bool
is_protected l x s = is_that_space l (protected_of l x) s
