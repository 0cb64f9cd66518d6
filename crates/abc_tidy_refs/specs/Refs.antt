-- The indices of a file's definitions and bodies that name entries of its pools, in file order (profile: docs/TIDYING.md, "What an index names").
use Rattle.std.specs.Prelude.{ℕ, List, [], ◌∷◌, ◌++◌, map, Some, None}
use Rattle.std.specs.declared.option.Option.{Option}
use Rattle.std.specs.List.{flat_map}
use Rattle.abc_tidy_refs.specs.declared.refs.Ref.{Ref}
use Rattle.abc_file_types.specs.declared.classes.ClassInfo.{ClassInfo}
use Rattle.abc_file_types.specs.declared.classes.Instance.{Instance}
use Rattle.abc_file_types.specs.declared.classes.Script.{Script}
use Rattle.abc_file_types.specs.declared.code.Body.{Body}
use Rattle.abc_file_types.specs.declared.code.Handler.{Handler}
use Rattle.abc_file_types.specs.declared.code.Instr.{Instr}
use Rattle.abc_file_types.specs.declared.code.Instr.TheVariants as instrs
use Rattle.abc_file_types.specs.declared.methods.Metadata.{Metadata}
use Rattle.abc_file_types.specs.declared.methods.Method.{Method}
use Rattle.abc_file_types.specs.declared.methods.OptionValue.{OptionValue}
use Rattle.abc_file_types.specs.declared.methods.ValueKind.{ValueKind}
use Rattle.abc_file_types.specs.declared.methods.ValueKind.TheVariants as kinds
use Rattle.abc_file_types.specs.declared.opcodes.OpInfo.{OpInfo}
use Rattle.abc_file_types.specs.declared.opcodes.Pool.{Pool}
use Rattle.abc_file_types.specs.declared.opcodes.Pool.TheVariants as pools
use Rattle.abc_file_types.specs.declared.tables.Abc.{Abc}
use Rattle.abc_file_types.specs.declared.traits.TraitBody.{TraitBody}
use Rattle.abc_file_types.specs.declared.traits.TraitBody.TheVariants as bodies
use Rattle.abc_file_types.specs.declared.traits.TraitInfo.{TraitInfo}
use Rattle.abc_file_types.specs.Opcodes.{info_at}

abbrev pub ref : Pool → ℕ → Ref
ref pool index = record { pool = pool; index = index }

-- indices that all name entries of one pool
abbrev pub refs_of : Pool → List ℕ → List Ref
refs_of pool xs = map (ref pool) xs

-- ---- methods and metadata

-- the pool that the value of an option is an index of; the values of four kinds are none
abbrev pub value_pool : ValueKind → Pool
value_pool kinds.Undefined = pools.NoPool
value_pool kinds.Utf8 = pools.Text
value_pool kinds.Int = pools.Int
value_pool kinds.UInt = pools.UInt
value_pool kinds.Double = pools.Double
value_pool kinds.False = pools.NoPool
value_pool kinds.True = pools.NoPool
value_pool kinds.Null = pools.NoPool
value_pool kinds.Private = pools.Space
value_pool kinds.Namespace = pools.Space
value_pool kinds.Package = pools.Space
value_pool kinds.PackageInternal = pools.Space
value_pool kinds.Protected = pools.Space
value_pool kinds.Explicit = pools.Space
value_pool kinds.StaticProtected = pools.Space

abbrev pub option_refs : OptionValue → List Ref
option_refs o = ref (value_pool o.kind) o.value ∷ []

-- the names of parameters are strings
abbrev pub method_refs : Method → List Ref
method_refs m =
    (ref pools.Name m.ret ∷ []) ++ refs_of pools.Name m.params ++ (ref pools.Text m.name ∷ []) ++ flat_map option_refs m.options
    ++ refs_of pools.Text m.param_names

abbrev pub metadata_refs : Metadata → List Ref
metadata_refs m = (ref pools.Text m.name ∷ []) ++ refs_of pools.Text m.items

-- ---- traits, classes and scripts

abbrev pub value_refs : Option OptionValue → List Ref
value_refs None = []
value_refs (Some o) = option_refs o

abbrev pub trait_body_refs : TraitBody → List Ref
trait_body_refs (bodies.Slot id ty value constant) = (ref pools.Name ty ∷ []) ++ value_refs value
trait_body_refs (bodies.Method disp method) = []
trait_body_refs (bodies.Getter disp method) = []
trait_body_refs (bodies.Setter disp method) = []
trait_body_refs (bodies.Class id class) = []
trait_body_refs (bodies.Function id method) = []

abbrev pub trait_refs : TraitInfo → List Ref
trait_refs t = (ref pools.Name t.name ∷ []) ++ trait_body_refs t.body

abbrev pub protected_refs : Option ℕ → List Ref
protected_refs None = []
protected_refs (Some space) = ref pools.Space space ∷ []

abbrev pub instance_refs : Instance → List Ref
instance_refs i =
    (ref pools.Name i.name ∷ []) ++ (ref pools.Name i.super_name ∷ []) ++ protected_refs i.protected_ns ++ refs_of pools.Name i.interfaces
    ++ flat_map trait_refs i.traits

abbrev pub class_refs : ClassInfo → List Ref
class_refs c = flat_map trait_refs c.traits

abbrev pub script_refs : Script → List Ref
script_refs s = flat_map trait_refs s.traits

-- ---- bodies

abbrev pool_in : Option OpInfo → Pool
pool_in (Some info) = info.pool
pool_in None = pools.NoPool

-- the pool that the first operand of an instruction names, and of `debug` its second, by the table of instructions
abbrev pub operand_pool : ℕ → Pool
operand_pool op = pool_in (info_at op)

-- the first operand of an instruction, and of `debug` the second, with the pool that it names, which may be none
abbrev pub instr_refs : Instr → List Ref
instr_refs (instrs.Plain op) = []
instr_refs (instrs.One op n) = ref (operand_pool op) n ∷ []
instr_refs (instrs.Two op n m) = ref (operand_pool op) n ∷ []
instr_refs (instrs.Branch op target) = []
instr_refs (instrs.Switch default cases) = []
instr_refs (instrs.Byte x) = []
instr_refs (instrs.Short x) = []
instr_refs (instrs.ScopeObject x) = []
instr_refs (instrs.Debug kind name reg extra) = ref (operand_pool 0xef) name ∷ []

abbrev pub handler_refs : Handler → List Ref
handler_refs h = (ref pools.Name h.exc_type ∷ []) ++ (ref pools.Name h.var_name ∷ [])

abbrev pub body_refs : Body → List Ref
body_refs b = flat_map instr_refs b.code ++ flat_map handler_refs b.handlers ++ flat_map trait_refs b.traits

-- ---- the whole file

-- the indices of all definitions and bodies of a file, in file order
abbrev pub file_refs : Abc → List Ref
file_refs v =
    flat_map method_refs v.methods ++ flat_map metadata_refs v.metadata ++ flat_map instance_refs v.instances ++ flat_map class_refs v.classes
    ++ flat_map script_refs v.scripts ++ flat_map body_refs v.bodies
