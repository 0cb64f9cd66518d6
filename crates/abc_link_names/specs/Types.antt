-- Types of names, over the numbers of layouts (profile: docs/LINKING.md, "Types").
use Rattle.std.specs.Prelude.{ℕ, Some, None, if◌then◌else◌}
use Rattle.std.specs.declared.option.Option.{Option}
use Rattle.abc_base.specs.declared.names.HostClass.{HostClass}
use Rattle.abc_base.specs.declared.names.HostClass.TheVariants as hosts
use Rattle.abc_link_names.specs.Linked.{LinkedFile, layout_of}
use Rattle.abc_link_names.specs.declared.part.Part.TheVariants as parts
use Rattle.abc_link_names.specs.Meaning.{type_named}
use Rattle.abc_link_names.specs.declared.named.Named.{Named}
use Rattle.abc_link_names.specs.declared.named.Named.TheVariants as named
use Rattle.abc_link_names.specs.Bases.{is_interface}
use Rattle.abc_link_names.specs.declared.types.Kind.{Kind}
use Rattle.abc_link_names.specs.declared.types.Kind.TheVariants as kinds
use Rattle.abc_link_names.specs.declared.types.Ty.{Ty}
use Rattle.abc_link_names.specs.declared.types.Ty.TheVariants as types

abbrev pub host_type : LinkedFile → HostClass → Ty
host_type l hosts.Object = types.Object
host_type l hosts.Int = types.Int
host_type l hosts.UInt = types.UInt
host_type l hosts.Number = types.Number
host_type l hosts.Boolean = types.Boolean
host_type l hosts.Str = types.Text
host_type l hosts.Namespace = types.Space
host_type l other = types.Of (layout_of l (parts.Host other))

-- the type of what a name stands for
abbrev pub type_in : LinkedFile → Named → Ty
type_in l named.Any = types.Any
type_in l named.Void = types.Void
type_in l (named.Host h) = host_type l h
type_in l (named.Class k) = if is_interface l.file k then types.Interface k else types.Of (layout_of l (parts.Instance k))

abbrev pub type_if : LinkedFile → Option Named → Option Ty
type_if l None = None
type_if l (Some n) = Some (type_in l n)

-- the type of a name
abbrev pub type_of : LinkedFile → ℕ → Option Ty
type_of l n = type_if l (type_named l.file n)

-- the kind of a type
abbrev pub kind_of_type : LinkedFile → Ty → Kind
kind_of_type l types.Any = kinds.Any
kind_of_type l types.Object = kinds.Any
kind_of_type l types.Void = kinds.Undef
kind_of_type l types.Int = kinds.Num
kind_of_type l types.UInt = kinds.Num
kind_of_type l types.Number = kinds.Num
kind_of_type l types.Boolean = kinds.Bool
kind_of_type l types.Text = kinds.Text
kind_of_type l types.Space = kinds.Space
kind_of_type l (types.Of x) = kinds.Obj x
kind_of_type l (types.Interface k) = kinds.Obj (layout_of l (parts.Host hosts.Object))
