-- Classes of a file by their numbers; no number past the end is asked for (a tool of other definitions).
use Rattle.std.specs.Prelude.{ℕ, [], None, get_or}
use Rattle.abc_file_types.specs.declared.classes.Instance.{Instance}
use Rattle.abc_file_types.specs.declared.tables.Abc.{Abc}

abbrev pub no_instance : Instance
no_instance = record { name = 0; super_name = 0; flags = 0; protected_ns = None; interfaces = []; iinit = 0; traits = [] }

-- what the file says of the instances of class i
abbrev pub instance_at : Abc → ℕ → Instance
instance_at v i = get_or v.instances i no_instance
