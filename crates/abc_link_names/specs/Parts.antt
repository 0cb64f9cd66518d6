-- What has a layout, and what stands under what (profile: docs/LINKING.md, "Layouts").
use Rattle.std.specs.Prelude.{ℕ, ◌<◌, Bool, Some, None, IsTrue, length}
use Rattle.std.specs.declared.option.Option.{Option}
use Rattle.abc_base.specs.declared.names.HostClass.{HostClass}
use Rattle.abc_base.specs.declared.names.HostClass.TheVariants as hosts
use Rattle.abc_link_names.specs.declared.named.Named.{Named}
use Rattle.abc_link_names.specs.declared.named.Named.TheVariants as named
use Rattle.abc_file_types.specs.Methods.{has_flag}
use Rattle.abc_file_types.specs.declared.tables.Abc.{Abc}
use Rattle.abc_link_names.specs.Bases.{base_named}
use Rattle.abc_link_names.specs.PartsByNumber.{body_at, method_at}
use Rattle.abc_link_names.specs.declared.part.Part.{Part}
use Rattle.abc_link_names.specs.declared.part.Part.TheVariants as parts

-- a body makes an activation where its method has flag 02
abbrev pub has_activation : Abc → ℕ → Bool
has_activation v b = has_flag (method_at v (body_at v b).method).flags 0x02

-- the parts that have layouts
abbrev pub HasLayout : Abc → Part → Type 0
HasLayout v (parts.Host h) = Unit {0}
HasLayout v (parts.HostClassObject h) = Unit {0}
HasLayout v (parts.Instance k) = k < length v.instances
HasLayout v (parts.ClassObject k) = k < length v.instances
HasLayout v (parts.Global s) = s < length v.scripts
HasLayout v (parts.Activation b) = (b < length v.bodies) × IsTrue (has_activation v b)
HasLayout v (parts.Catch b e) = (b < length v.bodies) × (e < length (body_at v b).handlers)

-- ---- what a part stands under

-- Error's three stand under Error, all other classes of the host under Object
abbrev pub host_parent : HostClass → Option Part
host_parent hosts.Object = None
host_parent hosts.TypeError = Some (parts.Host hosts.Error)
host_parent hosts.ReferenceError = Some (parts.Host hosts.Error)
host_parent hosts.ArgumentError = Some (parts.Host hosts.Error)
host_parent hosts.Class = Some (parts.Host hosts.Object)
host_parent hosts.Function = Some (parts.Host hosts.Object)
host_parent hosts.Namespace = Some (parts.Host hosts.Object)
host_parent hosts.Str = Some (parts.Host hosts.Object)
host_parent hosts.Int = Some (parts.Host hosts.Object)
host_parent hosts.UInt = Some (parts.Host hosts.Object)
host_parent hosts.Number = Some (parts.Host hosts.Object)
host_parent hosts.Boolean = Some (parts.Host hosts.Object)
host_parent hosts.Error = Some (parts.Host hosts.Object)
host_parent hosts.Array = Some (parts.Host hosts.Object)

-- the instances of what a base's name stands for; without a base those of Object
abbrev pub base_part : Option Named → Part
base_part (Some (named.Class b)) = parts.Instance b
base_part (Some (named.Host h)) = parts.Host h
base_part other = parts.Host hosts.Object

abbrev pub parent : Abc → Part → Option Part
parent v (parts.Host h) = host_parent h
parent v (parts.HostClassObject h) = Some (parts.Host hosts.Class)
parent v (parts.Instance k) = Some (base_part (base_named v k))
parent v (parts.ClassObject k) = Some (parts.Host hosts.Class)
parent v (parts.Global s) = Some (parts.Host hosts.Object)
parent v (parts.Activation b) = Some (parts.Host hosts.Object)
parent v (parts.Catch b e) = Some (parts.Host hosts.Object)
