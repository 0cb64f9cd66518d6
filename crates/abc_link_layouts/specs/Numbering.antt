-- The one numbering of the parts that have layouts (profile: docs/LINKING.md, "Layouts").
use Rattle.std.specs.Prelude.{◌≡◌, ℕ, List, [], ◌∷◌, ◌++◌, if◌then◌else◌, length, map}
use Rattle.std.specs.List.{flat_map, range_with_len}
use Rattle.abc_base.specs.Names.{host_classes}
use Rattle.abc_base_graphs.specs.Orders.{order_of_all}
use Rattle.abc_link_names.specs.PartsByNumber.{body_at}
use Rattle.abc_link_names.specs.Linked.{LinkedFile}
use Rattle.abc_link_names.specs.Parts.{has_activation}
use Rattle.abc_link_names.specs.declared.part.Part.{Part}
use Rattle.abc_link_names.specs.declared.part.Part.TheVariants as parts
use Rattle.abc_file_types.specs.declared.tables.Abc.{Abc}
use Rattle.abc_link_layouts.specs.Forest.{class_bases}

-- the activation of a body, if it makes one
abbrev pub activation_in : Abc → ℕ → List Part
activation_in v b = if has_activation v b then parts.Activation b ∷ [] else []

-- the same, and then its catch objects
abbrev pub parts_in : Abc → ℕ → List Part
parts_in v b = activation_in v b ++ map (λ e. parts.Catch b e) (range_with_len 0 (length (body_at v b).handlers))

-- instances and class objects of the host's classes, instances of the file's, each behind those of its base, their class objects,
-- the global objects, and what each body makes
unfoldable pub numbering : Abc → List Part
numbering v =
    map (λ h. parts.Host h) host_classes
    ++ map (λ h. parts.HostClassObject h) host_classes
    ++ map (λ k. parts.Instance k) (order_of_all (class_bases v))
    ++ map (λ k. parts.ClassObject k) (range_with_len 0 (length v.instances))
    ++ map (λ s. parts.Global s) (range_with_len 0 (length v.scripts))
    ++ flat_map (parts_in v) (range_with_len 0 (length v.bodies))

-- the layouts of a linked file have these numbers
abbrev pub HasLayoutNumbers : LinkedFile → Type 0
HasLayoutNumbers l = l.parts ≡ numbering l.file
