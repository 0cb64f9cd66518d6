-- Definitions and bodies with new numbers in place of their indices into pools. `f` gives the number for an index (profile: docs/TIDYING.md).
use Rattle.std.specs.Prelude.{ℕ, List, map, Some, None}
use Rattle.std.specs.declared.option.Option.{Option}
use Rattle.std.specs.Option.{option_map}
use Rattle.abc_file_types.specs.declared.classes.ClassInfo.{ClassInfo}
use Rattle.abc_file_types.specs.declared.classes.Instance.{Instance}
use Rattle.abc_file_types.specs.declared.classes.Script.{Script}
use Rattle.abc_file_types.specs.declared.code.Body.{Body}
use Rattle.abc_file_types.specs.declared.code.Handler.{Handler}
use Rattle.abc_file_types.specs.declared.code.Instr.{Instr}
use Rattle.abc_file_types.specs.declared.code.Instr.TheVariants as instrs
use Rattle.abc_file_types.specs.declared.methods.Metadata.{Metadata}
use Rattle.abc_file_types.specs.declared.methods.Method.{Method}
use Rattle.abc_file_types.specs.declared.methods.OptionValue.{OptionValue}
use Rattle.abc_file_types.specs.declared.opcodes.Pool.{Pool}
use Rattle.abc_file_types.specs.declared.opcodes.Pool.TheVariants as pools
use Rattle.abc_file_types.specs.declared.tables.Abc.{Abc}
use Rattle.abc_file_types.specs.declared.traits.TraitBody.{TraitBody}
use Rattle.abc_file_types.specs.declared.traits.TraitBody.TheVariants as bodies
use Rattle.abc_file_types.specs.declared.traits.TraitInfo.{TraitInfo}
use Rattle.abc_tidy_refs.specs.Refs.{operand_pool, value_pool}

abbrev pub Renumbering : Type 0
Renumbering = Pool → ℕ → ℕ

abbrev pub new_option : Renumbering → OptionValue → OptionValue
new_option f o = record { kind = o.kind; value = f (value_pool o.kind) o.value }

abbrev pub new_method : Renumbering → Method → Method
new_method f m = record {
  ret = f pools.Name m.ret;
  params = map (f pools.Name) m.params;
  name = f pools.Text m.name;
  flags = m.flags;
  options = map (new_option f) m.options;
  param_names = map (f pools.Text) m.param_names;
}

abbrev pub new_metadata : Renumbering → Metadata → Metadata
new_metadata f m = record { name = f pools.Text m.name; items = map (f pools.Text) m.items }

abbrev pub new_trait_body : Renumbering → TraitBody → TraitBody
new_trait_body f (bodies.Slot id ty value constant) = bodies.Slot id (f pools.Name ty) (option_map (new_option f) value) constant
new_trait_body f (bodies.Method disp method) = bodies.Method disp method
new_trait_body f (bodies.Getter disp method) = bodies.Getter disp method
new_trait_body f (bodies.Setter disp method) = bodies.Setter disp method
new_trait_body f (bodies.Class id class) = bodies.Class id class
new_trait_body f (bodies.Function id method) = bodies.Function id method

abbrev pub new_trait : Renumbering → TraitInfo → TraitInfo
new_trait f t = record { name = f pools.Name t.name; attrs = t.attrs; body = new_trait_body f t.body; metadata = t.metadata }

abbrev pub renumbered_instance : Renumbering → Instance → Instance
renumbered_instance f i = record {
  name = f pools.Name i.name;
  super_name = f pools.Name i.super_name;
  flags = i.flags;
  protected_ns = option_map (f pools.Space) i.protected_ns;
  interfaces = map (f pools.Name) i.interfaces;
  iinit = i.iinit;
  traits = map (new_trait f) i.traits;
}

abbrev pub renumbered_class : Renumbering → ClassInfo → ClassInfo
renumbered_class f c = record { cinit = c.cinit; traits = map (new_trait f) c.traits }

abbrev pub new_script : Renumbering → Script → Script
new_script f s = record { init = s.init; traits = map (new_trait f) s.traits }

abbrev pub new_instr : Renumbering → Instr → Instr
new_instr f (instrs.Plain op) = instrs.Plain op
new_instr f (instrs.One op n) = instrs.One op (f (operand_pool op) n)
new_instr f (instrs.Two op n m) = instrs.Two op (f (operand_pool op) n) m
new_instr f (instrs.Branch op target) = instrs.Branch op target
new_instr f (instrs.Switch default cases) = instrs.Switch default cases
new_instr f (instrs.Byte x) = instrs.Byte x
new_instr f (instrs.Short x) = instrs.Short x
new_instr f (instrs.ScopeObject x) = instrs.ScopeObject x
new_instr f (instrs.Debug kind name reg extra) = instrs.Debug kind (f (operand_pool 0xef) name) reg extra

abbrev pub new_handler : Renumbering → Handler → Handler
new_handler f h = record {
  from = h.from;
  to = h.to;
  target = h.target;
  exc_type = f pools.Name h.exc_type;
  var_name = f pools.Name h.var_name;
}

abbrev pub new_body : Renumbering → Body → Body
new_body f b = record {
  method = b.method;
  max_stack = b.max_stack;
  local_count = b.local_count;
  init_scope = b.init_scope;
  max_scope = b.max_scope;
  code = map (new_instr f) b.code;
  handlers = map (new_handler f) b.handlers;
  traits = map (new_trait f) b.traits;
}

-- the definitions and bodies of a file, each index with its new number, beside the same pools
abbrev pub new_file : Renumbering → Abc → Abc
new_file f v = record v {
  methods = map (new_method f) v.methods;
  metadata = map (new_metadata f) v.metadata;
  instances = map (renumbered_instance f) v.instances;
  classes = map (renumbered_class f) v.classes;
  scripts = map (new_script f) v.scripts;
  bodies = map (new_body f) v.bodies;
}

-- the definitions and bodies of a file beside the pools of another
abbrev pub beside : Abc → Abc → Abc
beside v pools = record pools {
  methods = v.methods;
  metadata = v.metadata;
  instances = v.instances;
  classes = v.classes;
  scripts = v.scripts;
  bodies = v.bodies;
}
