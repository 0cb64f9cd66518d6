-- Layouts found by their parts, and the layout that one stands under (profile: docs/LINKING.md, "Layouts").
use Rattle.std.specs.Prelude.{ℕ, List, Bool, nat_eq, ◌&&◌, Some, None, map, unwrap_or}
use Rattle.std.specs.declared.option.Option.{Option}
use Rattle.abc_base.specs.declared.names.HostClass.{HostClass}
use Rattle.abc_base.specs.declared.names.HostClass.TheVariants as hosts
use Rattle.abc_base_graphs.specs.Index.{first}
use Rattle.abc_file_types.specs.declared.tables.Abc.{Abc}
use Rattle.abc_link_names.specs.Numbering.{part_at}
use Rattle.abc_link_names.specs.Parts.{parent}
use Rattle.abc_link_names.specs.declared.key.PartKey.{PartKey}
use Rattle.abc_link_names.specs.declared.part.Part.{Part}
use Rattle.abc_link_names.specs.declared.part.Part.TheVariants as parts

-- ---- parts as numbers

abbrev pub host_number : HostClass → ℕ
host_number hosts.Object = 0
host_number hosts.Class = 1
host_number hosts.Function = 2
host_number hosts.Namespace = 3
host_number hosts.Str = 4
host_number hosts.Int = 5
host_number hosts.UInt = 6
host_number hosts.Number = 7
host_number hosts.Boolean = 8
host_number hosts.Error = 9
host_number hosts.TypeError = 10
host_number hosts.ReferenceError = 11
host_number hosts.ArgumentError = 12
host_number hosts.Array = 13

abbrev pub key_with : ℕ → ℕ → ℕ → PartKey
key_with kind number exception = record { kind = kind; number = number; exception = exception }

-- the key of a part: its kind, the number of what it is of, and of a catch object that of the handler too; different parts have different keys
abbrev pub part_key : Part → PartKey
part_key (parts.Host h) = key_with 0 (host_number h) 0
part_key (parts.Instance k) = key_with 1 k 0
part_key (parts.ClassObject k) = key_with 2 k 0
part_key (parts.HostClassObject h) = key_with 3 (host_number h) 0
part_key (parts.Global s) = key_with 4 s 0
part_key (parts.Activation b) = key_with 5 b 0
part_key (parts.Catch b e) = key_with 6 b e

abbrev pub key_eq : PartKey → PartKey → Bool
key_eq a b = nat_eq a.kind b.kind && (nat_eq a.number b.number && nat_eq a.exception b.exception)

-- ---- numbers of parts

-- the first place of a part
abbrev pub place_of_part : List Part → Part → ℕ
place_of_part all p = unwrap_or (first (key_eq (part_key p)) (map part_key all)) 0

abbrev pub place_under : List Part → Option Part → Option ℕ
place_under all None = None
place_under all (Some q) = Some (place_of_part all q)

-- the layout that a layout stands under
abbrev pub base_of : Abc → List Part → ℕ → Option ℕ
base_of v all x = place_under all (parent v (part_at all x))
