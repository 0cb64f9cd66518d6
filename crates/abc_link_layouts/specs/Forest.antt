-- The classes of the file by their bases, as far as these are classes of the file (a tool of other definitions).
use Rattle.std.specs.Prelude.{ℕ, List, Some, None, map}
use Rattle.std.specs.declared.option.Option.{Option}
use Rattle.abc_link_names.specs.Meaning.{resolve}
use Rattle.abc_link_names.specs.declared.named.Named.{Named}
use Rattle.abc_link_names.specs.declared.named.Named.TheVariants as named
use Rattle.abc_file_types.specs.declared.tables.Abc.{Abc}

abbrev pub class_in : Option Named → Option ℕ
class_in (Some (named.Class b)) = Some b
class_in other = None

abbrev pub class_bases : Abc → List (Option ℕ)
class_bases v = map (λ i. class_in (resolve v i.super_name)) v.instances
