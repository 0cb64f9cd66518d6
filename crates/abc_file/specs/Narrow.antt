-- The narrow format: that of files without multinames of kind 1D and without opcode 53. It is made from the parts of the
-- format, with two tables that lack a row each.
use Rattle.std.specs.Prelude.{◌≡◌, ℕ, Bool, true, false, nat_eq, All, List}
use Rattle.abc_file_types.specs.Lists.{pool_by}
use Rattle.abc_file_types.specs.Part.{Part, image}
use Rattle.abc_file_types.specs.declared.code.Instr.{Instr}
use Rattle.abc_file_types.specs.declared.code.Instr.TheVariants as instrs
use Rattle.abc_file_types.specs.declared.code.Body.{Body}
use Rattle.abc_file_types.specs.declared.instructions.Code.{Code}
use Rattle.abc_file_types.specs.declared.names.Multiname.{Multiname}
use Rattle.abc_file_types.specs.declared.names.Multiname.TheVariants as names
use Rattle.abc_file_types.specs.declared.tables.Abc.{Abc}
use Rattle.abc_file_types.specs.Bodies.{bodies_of, body_list_of, body_method, body_of_parts}
use Rattle.abc_file_types.specs.Classes.{sizes_of}
use Rattle.abc_file_types.specs.Code.{code_body_of, code_of}
use Rattle.abc_file_types.specs.Files.{file_of}
use Rattle.abc_file_types.specs.Instructions.{RawInstr, instruction_of, opcode_in, pieces_of}
use Rattle.abc_file_types.specs.Pools.{multiname_kind_in, multiname_of, pools_of}

unfoldable pub narrow_names : ℕ → ℕ → ℕ → Part (List Multiname)
narrow_names strings spaces sets = pool_by (multiname_of (multiname_kind_in false) strings spaces sets)

unfoldable pub narrow_instruction : Part RawInstr
narrow_instruction = instruction_of (opcode_in false)

unfoldable pub narrow_code_body : ℕ → Part Code
narrow_code_body n = code_body_of narrow_instruction (pieces_of narrow_instruction n) n

unfoldable pub narrow_body : Abc → List ℕ → Part (Body × List ℕ)
narrow_body abc taken = body_of_parts (code_of narrow_code_body) (sizes_of abc) (body_method (sizes_of abc) taken)

unfoldable pub narrow_bodies : Abc → Part Abc
narrow_bodies abc = image (λ x. x.0) (bodies_of (body_list_of (narrow_body abc)) abc)

-- the narrow format
unfoldable pub narrow_file : Part Abc
narrow_file = file_of (pools_of narrow_names) narrow_bodies

-- ---- which values it has

abbrev pub has_params : Multiname → Bool
has_params (names.TypeName base params) = true
has_params m = false

abbrev pub is_applytype : Instr → Bool
is_applytype (instrs.One op n) = nat_eq op 0x53
is_applytype i = false

abbrev pub HasNoApplytype : Body → Type 0
HasNoApplytype b = All (λ i. is_applytype i ≡ false) b.code

-- No multiname has parameters, and no instruction is `applytype`.
pub record IsNarrow (v : Abc) : Type 0 where
  pub names : All (λ m. has_params m ≡ false) v.names
  pub code : All HasNoApplytype v.bodies
