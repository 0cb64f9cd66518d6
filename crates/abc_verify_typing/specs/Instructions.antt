-- What an instruction names: its opcode, its operands by their meaning, and places (Overview, chapter 5).
use Rattle.std.specs.Prelude.{ℕ, ◌%◌, List, [], ◌∷◌}
use Rattle.abc_file_types.specs.declared.code.Instr.{Instr}
use Rattle.abc_file_types.specs.declared.code.Instr.TheVariants as instrs
use Rattle.abc_file_types.specs.declared.op.TheConstants as op

-- the opcode of an instruction
abbrev pub opcode : Instr → ℕ
opcode (instrs.Plain code) = code
opcode (instrs.One code n) = code
opcode (instrs.Two code m n) = code
opcode (instrs.Branch code t) = code
opcode (instrs.Switch t ts) = op.LOOKUPSWITCH
opcode (instrs.Byte n) = op.PUSHBYTE
opcode (instrs.Short n) = op.PUSHSHORT
opcode (instrs.ScopeObject n) = op.GETSCOPEOBJECT
opcode (instrs.Debug kind name reg extra) = op.DEBUG

-- the number that names something in a table
abbrev pub operand : Instr → ℕ
operand (instrs.One op n) = n
operand (instrs.Two op n argc) = n
operand (instrs.ScopeObject n) = n
operand (instrs.Debug kind name reg extra) = name
operand i = 0

-- how many arguments a call has
abbrev pub argument_count : Instr → ℕ
argument_count (instrs.One op argc) = argc
argument_count (instrs.Two op n argc) = argc
argument_count i = 0

-- the local that is named; the opcodes of getlocal_0 and of setlocal_0 are multiples of four
abbrev pub local : Instr → ℕ
local (instrs.Plain op) = op % 4
local i = operand i

-- the local of hasnext2 that is an index
abbrev pub second_local : Instr → ℕ
second_local (instrs.Two op p q) = q
second_local i = 0

-- the places that an instruction names
abbrev pub targets : Instr → List ℕ
targets (instrs.Branch op t) = t ∷ []
targets (instrs.Switch t ts) = t ∷ ts
targets i = []
