-- The file that is generated from a seed and a number of functions (profile: docs/PROGRAM.md, "Words"; said in full here alone).
use Rattle.std.specs.Prelude.{ℕ, ◌+◌, ◌*◌, ◌-◌, List, [], ◌∷◌, ◌++◌, false, codes, decimal, map}
use Rattle.std.specs.List.{range_with_len}
use Rattle.abc_file_types.specs.declared.classes.Script.{Script}
use Rattle.abc_file_types.specs.declared.code.Body.{Body}
use Rattle.abc_file_types.specs.declared.code.Instr.{Instr}
use Rattle.abc_file_types.specs.declared.methods.Method.{Method}
use Rattle.abc_file_types.specs.declared.names.Multiname.{Multiname}
use Rattle.abc_file_types.specs.declared.names.Multiname.TheVariants as names
use Rattle.abc_file_types.specs.declared.names.Namespace.{Namespace}
use Rattle.abc_file_types.specs.declared.names.NsKind.TheVariants as spaces
use Rattle.abc_file_types.specs.declared.tables.Abc.{Abc}
use Rattle.abc_file_types.specs.declared.traits.TraitBody.TheVariants as traits
use Rattle.abc_file_types.specs.declared.traits.TraitInfo.{TraitInfo}
use Rattle.abc_file_types.specs.Pools.{empty}
use Rattle.abc_cli_answers.specs.Draws.{draws_after}
use Rattle.abc_cli_answers.specs.Codes.{drawn_code, first_code}

-- the functions, counted from 1
abbrev pub one_to : ℕ → List ℕ
one_to m = range_with_len 1 m

abbrev pub function_name : ℕ → List ℕ
function_name i = codes "f" ++ decimal i

abbrev pub generated_texts : ℕ → List (List ℕ)
generated_texts m = codes "trace" ∷ codes "int" ∷ map function_name (one_to m)

-- the public name whose text is the string of the same number
abbrev pub public_name : ℕ → Multiname
public_name k = names.QName false 1 k

abbrev pub signature : ℕ → List ℕ → Method
signature type parameters = record { ret = type; params = parameters; name = 0; flags = 0; options = []; param_names = [] }

-- a function of an int that gives an int
abbrev pub function_signature : ℕ → Method
function_signature i = signature 2 (2 ∷ [])

abbrev pub function_trait : ℕ → TraitInfo
function_trait i = record { name = i + 2; attrs = 0; body = traits.Method 0 i; metadata = [] }

-- a body by its method, how many locals and scopes it has, and its code
abbrev pub generated_body : ℕ → ℕ → ℕ → List Instr → Body
generated_body m locals scopes code =
    record { method = m; max_stack = 2; local_count = locals; init_scope = 0; max_scope = scopes; code = code; handlers = []; traits = [] }

abbrev pub first_body : ℕ → Body
first_body m = generated_body 0 2 1 (first_code m)

-- Each of the bodies of functions takes three draws, in the order of the functions.
abbrev pub function_body : ℕ → ℕ → Body
function_body seed i = generated_body i 3 0 (drawn_code (draws_after seed (3 * (i - 1))))

abbrev pub public_space : Namespace
public_space = record { kind = spaces.Package; name = 0 }

abbrev pub generated_script : ℕ → Script
generated_script m = record { init = 0; traits = map function_trait (one_to m) }

-- the file that is generated from a seed, with m functions
abbrev pub generated_file : ℕ → ℕ → Abc
generated_file seed m = record empty {
  strings = generated_texts m;
  namespaces = public_space ∷ [];
  names = map public_name (one_to (m + 2));
  methods = signature 0 [] ∷ map function_signature (one_to m);
  scripts = generated_script m ∷ [];
  bodies = first_body m ∷ map (function_body seed) (one_to m);
}
