-- Which interfaces a class names: itself, through its bases, or through the interfaces of interfaces. The base of an interface is not followed
-- (profile: docs/LINKING.md, "Interfaces").
use Rattle.std.specs.Prelude.{ℕ, List, [], ◌++◌, IsTrue, if◌then◌else◌, map}
use Rattle.abc_base_graphs.specs.Graph.{Leads}
use Rattle.abc_link_names.specs.Meaning.{resolve}
use Rattle.abc_link_names.specs.Bases.{classes_named, interfaces_of, is_interface}
use Rattle.abc_file_types.specs.Methods.{has_flag}
use Rattle.abc_file_types.specs.declared.classes.Instance.{Instance}
use Rattle.abc_file_types.specs.declared.tables.Abc.{Abc}
use Rattle.abc_link_names.specs.Linked.{LinkedFile}

-- the interfaces of a class's own list, and its base
abbrev pub above_class : Abc → Instance → List ℕ
above_class v i = interfaces_of v i ++ (if has_flag i.flags 0x04 then [] else classes_named (resolve v i.super_name))

abbrev pub class_graph : Abc → List (List ℕ)
class_graph v = map (above_class v) v.instances

-- Class k implements interface i: it names it itself, or over bases of classes and interfaces of interfaces.
abbrev pub Implements : LinkedFile → ℕ → ℕ → Type 0
Implements l k i = IsTrue (is_interface l.file i) × Leads (class_graph l.file) k i
