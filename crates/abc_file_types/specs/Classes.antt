-- Instances, classes and scripts, and all definitions in their order
-- (Overview, chapter 4, "Instance", "Class" and "Script"; profile: docs/FORMAT.md).
use Rattle.std.specs.Prelude.{ℕ, List, [], ◌∷◌, ◌++◌, length, Some, None}
use Rattle.std.specs.declared.option.Option.{Option}
use Rattle.std.specs.List.{flat_map}
use Rattle.abc_base.specs.Numbers.{number_bytes}
use Rattle.abc_file_types.specs.Part.{Part, then_by, both, image, when}
use Rattle.abc_file_types.specs.Numbers.{u8, u30, index_below, pool_index, entry_index}
use Rattle.abc_file_types.specs.Lists.{times, count_and_items}
use Rattle.abc_file_types.specs.Canonical.{counted_bytes}
use Rattle.abc_file_types.specs.declared.classes.Instance.{Instance}
use Rattle.abc_file_types.specs.declared.classes.ClassInfo.{ClassInfo}
use Rattle.abc_file_types.specs.declared.classes.Script.{Script}
use Rattle.abc_file_types.specs.declared.methods.Metadata.{Metadata}
use Rattle.abc_file_types.specs.declared.methods.Method.{Method}
use Rattle.abc_file_types.specs.declared.tables.Abc.{Abc}
use Rattle.abc_file_types.specs.declared.tables.Sizes.{Sizes}
use Rattle.abc_file_types.specs.declared.traits.TraitInfo.{TraitInfo}
use Rattle.abc_file_types.specs.Methods.{has_flag, method, method_bytes, metadata, metadata_bytes}
use Rattle.abc_file_types.specs.Traits.{trait_info, trait_bytes}

abbrev pub some_index : ℕ → Option ℕ
some_index n = Some n

-- the fields in their order
abbrev pub instance_in : ℕ × (ℕ × (ℕ × (Option ℕ × (List ℕ × (ℕ × List TraitInfo))))) → Instance
instance_in (name, (super_name, (flags, (protected_ns, (interfaces, (iinit, traits)))))) =
    record { name = name; super_name = super_name; flags = flags; protected_ns = protected_ns; interfaces = interfaces; iinit = iinit; traits = traits }

-- a name, a base, flags, a protected namespace where flag 08 is set, interfaces, an initializer and traits
unfoldable pub instance : Sizes → Part Instance
instance v =
    image instance_in
    (both (entry_index v.names) (both (pool_index v.names) (then_by u8 (λ flags.
    both (when (has_flag flags 0x08) None (image some_index (pool_index v.namespaces)))
    (both (count_and_items (entry_index v.names)) (both (index_below v.methods) (count_and_items (trait_info v))))))))

abbrev pub protected_bytes : Option ℕ → List ℕ
protected_bytes None = []
protected_bytes (Some n) = number_bytes n

unfoldable pub instance_bytes : Instance → List ℕ
instance_bytes i =
    number_bytes i.name ++ number_bytes i.super_name ++ i.flags ∷ [] ++ protected_bytes i.protected_ns ++ counted_bytes number_bytes i.interfaces
    ++ number_bytes i.iinit ++ counted_bytes trait_bytes i.traits

-- the initializer of a class, and the traits of the class itself
unfoldable pub class_info : Sizes → Part ClassInfo
class_info v = image (λ x. record { cinit = x.0; traits = x.1 }) (both (index_below v.methods) (count_and_items (trait_info v)))

unfoldable pub class_bytes : ClassInfo → List ℕ
class_bytes c = number_bytes c.cinit ++ counted_bytes trait_bytes c.traits

-- the initializer of a script, and its traits
unfoldable pub script : Sizes → Part Script
script v = image (λ x. record { init = x.0; traits = x.1 }) (both (index_below v.methods) (count_and_items (trait_info v)))

unfoldable pub script_bytes : Script → List ℕ
script_bytes s = number_bytes s.init ++ counted_bytes trait_bytes s.traits

-- ---- all definitions

-- how many entries the tables have, with so many methods, metadata and classes
abbrev pub sizes_with : Abc → ℕ → ℕ → ℕ → Sizes
sizes_with abc methods metadata classes = record {
  ints = length abc.ints;
  uints = length abc.uints;
  doubles = length abc.doubles;
  strings = length abc.strings;
  namespaces = length abc.namespaces;
  sets = length abc.sets;
  names = length abc.names;
  methods = methods;
  metadata = metadata;
  classes = classes;
}

-- how many entries each table of a file has
abbrev pub sizes_of : Abc → Sizes
sizes_of abc = sizes_with abc (length abc.methods) (length abc.metadata) (length abc.classes)

-- the definitions beside the pools of a value; the third is the number of classes
abbrev pub with_definitions : Abc → List Method × (List Metadata × (ℕ × (List Instance × (List ClassInfo × List Script)))) → Abc
with_definitions abc (methods, (metadata, (count, (instances, (classes, scripts))))) =
    record abc { methods = methods; metadata = metadata; instances = instances; classes = classes; scripts = scripts }

-- methods, metadata, as many instances as classes, and scripts, beside the pools of a value
unfoldable pub definitions : Abc → Part Abc
definitions abc =
    image (with_definitions abc)
    (then_by (count_and_items (method (sizes_with abc 0 0 0))) (λ methods.
    then_by (count_and_items (metadata (sizes_with abc 0 0 0))) (λ metadata.
    then_by u30 (λ classes. let v = sizes_with abc (length methods) (length metadata) classes in
    both (times classes (instance v)) (both (times classes (class_info v)) (count_and_items (script v)))))))

-- the canonical bytes of all definitions; the count of classes stands once, before the instances
unfoldable pub definitions_bytes : Abc → List ℕ
definitions_bytes v =
    counted_bytes method_bytes v.methods ++ counted_bytes metadata_bytes v.metadata ++ number_bytes (length v.classes) ++ flat_map instance_bytes v.instances
    ++ flat_map class_bytes v.classes ++ counted_bytes script_bytes v.scripts
