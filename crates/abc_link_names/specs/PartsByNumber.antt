-- The parts of a file by their numbers; no number past the end is asked for (a tool of other definitions).
use Rattle.std.specs.Prelude.{ℕ, List, [], get_or}
use Rattle.abc_link_names.specs.Instances.{instance_at}
use Rattle.abc_file_types.specs.declared.methods.Method.{Method}
use Rattle.abc_file_types.specs.declared.traits.TraitInfo.{TraitInfo}
use Rattle.abc_file_types.specs.declared.classes.ClassInfo.{ClassInfo}
use Rattle.abc_file_types.specs.declared.classes.Script.{Script}
use Rattle.abc_file_types.specs.declared.code.Body.{Body}
use Rattle.abc_file_types.specs.declared.tables.Abc.{Abc}
use Rattle.abc_link_names.specs.declared.items.ItemKind.{ItemKind}
use Rattle.abc_link_names.specs.declared.items.ItemKind.TheVariants as kinds

abbrev pub no_method : Method
no_method = record { ret = 0; params = []; name = 0; flags = 0; options = []; param_names = [] }

-- the method of an index
abbrev pub method_at : Abc → ℕ → Method
method_at v i = get_or v.methods i no_method

abbrev pub no_class : ClassInfo
no_class = record { cinit = 0; traits = [] }

-- what the file says of the class i itself, beside its instances
abbrev pub class_at : Abc → ℕ → ClassInfo
class_at v i = get_or v.classes i no_class

abbrev pub no_script : Script
no_script = record { init = 0; traits = [] }

-- the script of an index
abbrev pub script_at : Abc → ℕ → Script
script_at v i = get_or v.scripts i no_script

abbrev pub no_body : Body
no_body = record { method = 0; max_stack = 0; local_count = 0; init_scope = 0; max_scope = 0; code = []; handlers = []; traits = [] }

-- the body of an index
abbrev pub body_at : Abc → ℕ → Body
body_at v i = get_or v.bodies i no_body

-- the table of traits of an item: of a class that of the class itself
abbrev pub own_table : Abc → ItemKind → ℕ → List TraitInfo
own_table v kinds.File i = []
own_table v kinds.Method i = []
own_table v kinds.Class i = (class_at v i).traits
own_table v kinds.Script i = (script_at v i).traits
own_table v kinds.Body i = (body_at v i).traits

-- a class has another, that of its instances
abbrev pub instance_table : Abc → ItemKind → ℕ → List TraitInfo
instance_table v kinds.File i = []
instance_table v kinds.Method i = []
instance_table v kinds.Class i = (instance_at v i).traits
instance_table v kinds.Script i = []
instance_table v kinds.Body i = []
