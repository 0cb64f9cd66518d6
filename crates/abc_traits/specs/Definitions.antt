-- Definitions apart from the pools beside them.
use Rattle.std.specs.Prelude.{ℕ, List, ◌++◌, length}
use Rattle.std.specs.List.{flat_map}
use Rattle.abc_base.specs.Numbers.{number_bytes}
use Rattle.abc_file_types.specs.Canonical.{counted_bytes}
use Rattle.abc_file_types.specs.Part.{Part, then_by, both, image}
use Rattle.abc_file_types.specs.Numbers.{u30}
use Rattle.abc_file_types.specs.Lists.{times, count_and_items}
use Rattle.abc_file_types.specs.declared.tables.Abc.{Abc}
use Rattle.abc_file_types.specs.declared.tables.Sizes.{Sizes}
use Rattle.abc_file_types.specs.Methods.{method, method_bytes, metadata, metadata_bytes}
use Rattle.abc_file_types.specs.Classes.{instance, instance_bytes, class_info, class_bytes, script, script_bytes}
use Rattle.abc_file_types.specs.declared.classes.Instance.{Instance}
use Rattle.abc_file_types.specs.declared.classes.ClassInfo.{ClassInfo}
use Rattle.abc_file_types.specs.declared.classes.Script.{Script}
use Rattle.abc_traits.specs.declared.definitions.Definitions.{Definitions}

-- an Abc whose later tables are these
abbrev pub with_later_tables : Abc → Definitions → Abc
with_later_tables abc d = record abc { methods = d.methods; metadata = d.metadata; instances = d.instances; classes = d.classes; scripts = d.scripts }

abbrev pub sizes_within : Sizes → ℕ → ℕ → ℕ → Sizes
sizes_within pools methods metadata classes = record pools { methods = methods; metadata = metadata; classes = classes }

-- so many instances, as many class infos, and the scripts
abbrev pub class_tables : Sizes → ℕ → Part (List Instance × (List ClassInfo × List Script))
class_tables v n = both (times n (instance v)) (both (times n (class_info v)) (count_and_items (script v)))

abbrev pub class_tables_bytes : List Instance × (List ClassInfo × List Script) → List ℕ
class_tables_bytes x = flat_map instance_bytes x.0 ++ flat_map class_bytes x.1.0 ++ counted_bytes script_bytes x.1.1

-- the five tables, beside pools of these sizes
unfoldable pub tables : Sizes → Part Definitions
tables pools =
    image (λ x. record { methods = x.0; metadata = x.1.0; instances = x.1.1.1.0; classes = x.1.1.1.1.0; scripts = x.1.1.1.1.1 })
    (then_by (count_and_items (method pools)) (λ methods.
    then_by (count_and_items (metadata pools)) (λ metadata.
    then_by u30 (λ classes. class_tables (sizes_within pools (length methods) (length metadata) classes) classes))))

-- the bytes of the five tables
abbrev pub tables_bytes : Definitions → List ℕ
tables_bytes d =
    counted_bytes method_bytes d.methods ++ counted_bytes metadata_bytes d.metadata ++ number_bytes (length d.classes) ++ flat_map instance_bytes d.instances
    ++ flat_map class_bytes d.classes ++ counted_bytes script_bytes d.scripts

-- the sizes of all tables that indices name, beside pools of these sizes
abbrev pub sizes_beside : Sizes → Definitions → Sizes
sizes_beside pools d = sizes_within pools (length d.methods) (length d.metadata) (length d.classes)
