-- The parts of code: an instruction as it is spelled, with its offsets in bytes (Overview, chapter 5; profile: docs/FORMAT.md, "Code").
use Rattle.std.specs.Prelude.{ℕ, ℤ, ◌+◌, ◌%◌, ◌^◌, Bool, true, unwrap_or, List, nat_lt}
use Rattle.std.specs.Int.{w8, w16, cast_signed}
use Rattle.abc_file_types.specs.declared.reason.Reason.TheVariants as reasons
use Rattle.abc_file_types.specs.Part.{Part, known_value, both, then_by, image, with_test}
use Rattle.abc_file_types.specs.Numbers.{u8, u30, u32, s24}
use Rattle.abc_file_types.specs.Lists.{times}
use Rattle.abc_file_types.specs.Ends.{blame_first, fill}
use Rattle.abc_file_types.specs.declared.code.Instr.{Instr}
use Rattle.abc_file_types.specs.declared.code.Instr.TheVariants as instrs
use Rattle.abc_file_types.specs.declared.opcodes.Form.{Form}
use Rattle.abc_file_types.specs.declared.opcodes.Form.TheVariants as forms
use Rattle.abc_file_types.specs.Opcodes.{form_at, is_opcode}

-- An instruction as it is spelled. One without targets is itself; a branch and a switch have offsets in bytes.
pub data RawInstr : Type 0 where
  Same : Instr → RawInstr
  Branch : ℕ → ℤ → RawInstr
  Switch : ℤ → List ℤ → RawInstr

-- an opcode that some instruction has, and what follows it
abbrev pub opcode_in : Bool → Part (ℕ × Form)
opcode_in wide = image (λ op. (op, unwrap_or (form_at op) forms.Plain)) (with_test (is_opcode wide) reasons.Opcode u8)

unfoldable pub opcode_part : Part (ℕ × Form)
opcode_part = opcode_in true

-- a byte, in two's complement
unfoldable pub signed_byte : Part ℤ
signed_byte = image (λ x. cast_signed w8 (x % 256)) u8

-- a u32, of which the low 16 bits count, in two's complement
unfoldable pub signed_short : Part ℤ
signed_short = image (λ x. cast_signed w16 (x % 65536)) u32

-- a default, a count, and one case more than that
unfoldable pub switch_offsets : Part (ℤ × (ℕ × List ℤ))
switch_offsets = both s24 (then_by u30 (λ count. times (count + 1) s24))

abbrev debug_in : ℕ × (ℕ × (ℕ × ℕ)) → RawInstr
debug_in (kind, (name, (reg, extra))) = Same (instrs.Debug kind name reg extra)

abbrev pub operand_parts : ℕ → Form → Part RawInstr
operand_parts op forms.Plain = known_value (Same (instrs.Plain op))
operand_parts op forms.One = image (λ n. Same (instrs.One op n)) u30
operand_parts op forms.Two = image (λ x. Same (instrs.Two op x.0 x.1)) (both u30 u30)
operand_parts op forms.Branch = image (λ z. Branch op z) s24
operand_parts op forms.Switch = image (λ x. Switch x.0 x.1.1) switch_offsets
operand_parts op forms.Byte = image (λ z. Same (instrs.Byte z)) signed_byte
operand_parts op forms.Short = image (λ z. Same (instrs.Short z)) signed_short
operand_parts op forms.ScopeObject = image (λ x. Same (instrs.ScopeObject x)) u8
operand_parts op forms.Debug = image debug_in (both u8 (both u30 (both u8 u30)))

-- an opcode, read so, and its operands
abbrev pub instruction_of : Part (ℕ × Form) → Part RawInstr
instruction_of opcode = image (λ x. x.1) (then_by opcode (λ o. operand_parts o.0 o.1))

-- an instruction as it is spelled: its opcode and its operands
unfoldable pub instruction : Part RawInstr
instruction = instruction_of opcode_part

-- the instructions that fill n bytes without a gap, and how many bytes spell each
abbrev pub pieces_of : Part RawInstr → ℕ → Part (List (RawInstr × ℕ))
pieces_of instruction n = fill n n (blame_first instruction)

-- the instructions that fill n bytes, each with how many bytes spell it
unfoldable pub pieces : ℕ → Part (List (RawInstr × ℕ))
pieces = pieces_of instruction

-- how many bytes of code a body has: fewer than 2^23
unfoldable pub code_length : Part ℕ
code_length = with_test (λ n. nat_lt n (2 ^ 23)) reasons.CodeLength u30
