-- The base of a class, as code holds it.
use Rattle.std.specs.Prelude.{◌<◌, Some, None, length}
use Rattle.std.specs.declared.option.Option.{Option}
use Rattle.abc_link_names.specs.declared.named.Named.{Named}
use Rattle.abc_link_names.specs.declared.named.Named.TheVariants as named
use Rattle.abc_link_names.specs.Linked.{LinkedFile}
use Rattle.abc_link_names.specs.declared.part.Part.{Part}
use Rattle.abc_link_names.specs.declared.part.Part.TheVariants as parts
use Rattle.abc_run_members.specs.declared.bases.Base.{Base}
use Rattle.abc_run_members.specs.declared.bases.Base.TheVariants as bases

-- the base in the words of the meaning, if there is one
abbrev pub named_of : Base → Option Named
named_of bases.Nothing = None
named_of (bases.Class k) = Some (named.Class k)
named_of (bases.Host c) = Some (named.Host c)

-- a base that is given by the number of a class is a class of the file
abbrev pub IsBase : LinkedFile → Base → Type 0
IsBase l bases.Nothing = Unit {0}
IsBase l (bases.Class k) = k < length l.file.instances
IsBase l (bases.Host c) = Unit {0}

-- the instances of a class
abbrev pub IsClassPart : Part → Type 0
IsClassPart (parts.Instance k) = Unit {0}
IsClassPart (parts.Host c) = Unit {0}
IsClassPart (parts.ClassObject k) = ⊥
IsClassPart (parts.HostClassObject c) = ⊥
IsClassPart (parts.Global s) = ⊥
IsClassPart (parts.Activation b) = ⊥
IsClassPart (parts.Catch b e) = ⊥
