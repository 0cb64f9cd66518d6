-- Bases and interfaces of classes (Overview, chapter 4, "Instance"; profile: docs/LINKING.md, "The rules").
use Rattle.std.specs.Prelude.{ℕ, List, [], ◌∷◌, Bool, true, false, nat_eq, not, ◌&&◌, Some, None, if◌then◌else◌, map}
use Rattle.std.specs.declared.option.Option.{Option}
use Rattle.std.specs.List.{list_any, flat_map}
use Rattle.abc_base.specs.declared.names.HostClass.{HostClass}
use Rattle.abc_base.specs.declared.names.HostClass.TheVariants as hosts
use Rattle.abc_link_names.specs.Instances.{instance_at}
use Rattle.abc_link_names.specs.Meaning.{resolve}
use Rattle.abc_link_names.specs.declared.named.Named.{Named}
use Rattle.abc_link_names.specs.declared.named.Named.TheVariants as named
use Rattle.abc_file_types.specs.Methods.{has_flag}
use Rattle.abc_file_types.specs.declared.classes.Instance.{Instance}
use Rattle.abc_file_types.specs.declared.tables.Abc.{Abc}

-- class k is an interface, as flag 04 says
abbrev pub is_interface : Abc → ℕ → Bool
is_interface v k = has_flag (instance_at v k).flags 0x04

abbrev pub is_final : Abc → ℕ → Bool
is_final v k = has_flag (instance_at v k).flags 0x02

-- what the name of the base of class k stands for, if it stands for anything
abbrev pub base_named : Abc → ℕ → Option Named
base_named v k = resolve v (instance_at v k).super_name

-- ---- the rules on bases and interfaces

abbrev pub is_some_class : Option Named → Bool
is_some_class (Some (named.Class b)) = true
is_some_class (Some (named.Host h)) = true
is_some_class other = false

abbrev pub breaks_unknown_base : Abc → ℕ → Bool
breaks_unknown_base v k = not (nat_eq (instance_at v k).super_name 0) && not (is_some_class (base_named v k))

abbrev pub may_be_base : HostClass → Bool
may_be_base hosts.Object = true
may_be_base hosts.Error = true
may_be_base hosts.TypeError = true
may_be_base hosts.ReferenceError = true
may_be_base hosts.ArgumentError = true
may_be_base other = false

abbrev pub is_final_base : Abc → Option Named → Bool
is_final_base v (Some (named.Class b)) = is_final v b
is_final_base v (Some (named.Host h)) = not (may_be_base h)
is_final_base v (Some named.Any) = false
is_final_base v (Some named.Void) = false
is_final_base v None = false

abbrev pub is_interface_named : Abc → Option Named → Bool
is_interface_named v (Some (named.Class b)) = is_interface v b
is_interface_named v (Some (named.Host h)) = false
is_interface_named v (Some named.Any) = false
is_interface_named v (Some named.Void) = false
is_interface_named v None = false

abbrev pub breaks_unknown_interface : Abc → ℕ → Bool
breaks_unknown_interface v k = list_any (λ n. not (is_interface_named v (resolve v n))) (instance_at v k).interfaces

-- ---- as graphs over the classes

-- the class of the file that a name stands for, if it is one
abbrev pub classes_named : Option Named → List ℕ
classes_named (Some (named.Class b)) = b ∷ []
classes_named other = []

abbrev pub base_graph : Abc → List (List ℕ)
base_graph v = map (λ i. classes_named (resolve v i.super_name)) v.instances

-- the interface of the file that a name stands for, if it is one
abbrev pub interfaces_named : Abc → Option Named → List ℕ
interfaces_named v (Some (named.Class b)) = if is_interface v b then b ∷ [] else []
interfaces_named v other = []

abbrev pub interfaces_of : Abc → Instance → List ℕ
interfaces_of v i = flat_map (λ n. interfaces_named v (resolve v n)) i.interfaces

-- interfaces alone are followed from, to the interfaces that they name
abbrev pub targets_of : Abc → Instance → List ℕ
targets_of v i = if has_flag i.flags 0x04 then interfaces_of v i else []

abbrev pub interface_graph : Abc → List (List ℕ)
interface_graph v = map (targets_of v) v.instances
