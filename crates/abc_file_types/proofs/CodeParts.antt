-- The parts of code are exact.
use Rattle.std.proofs.Common.{ℕ, ◌+◌, ◌≤◌, List, length, length-append, ap, arith}
use Rattle.abc_file_types.specs.Law.{Exact}
use Rattle.abc_file_types.specs.Ends.{IsNonEmpty, blame_first}
use Rattle.abc_file_types.specs.Numbers.{u8}
use Rattle.abc_file_types.proofs.Exact.{image-exact, both-exact, checked-exact, then-exact, done-exact, times-exact}
use Rattle.abc_file_types.proofs.Numbers.{u8-exact, u30-exact, u32-exact, s24-exact}
use Rattle.abc_file_types.proofs.Within.{blamed-exact, fill-exact}
use Rattle.abc_file_types.specs.declared.opcodes.Form.{Form}
use Rattle.abc_file_types.specs.declared.opcodes.Form.TheVariants as forms
use Rattle.abc_file_types.specs.Instructions.{RawInstr, opcode_part, signed_byte, signed_short, switch_offsets, operand_parts, instruction, pieces, code_length}
use Rattle.abc_file_types.specs.Places.{instruction_place}

opcode-exact : Exact opcode_part
unfolding opcode_part
opcode-exact = image-exact _ _ (checked-exact _ _ _ u8-exact)

signed_byte-exact : Exact signed_byte
unfolding signed_byte
signed_byte-exact = image-exact _ _ u8-exact

signed_short-exact : Exact signed_short
unfolding signed_short
signed_short-exact = image-exact _ _ u32-exact

switch_offsets-exact : Exact switch_offsets
unfolding switch_offsets
switch_offsets-exact = both-exact _ _ s24-exact (then-exact _ _ u30-exact (λ c. times-exact (c + 1) _ s24-exact))

operands-exact : (op : ℕ) (form : Form) → Exact (operand_parts op form)
operands-exact op forms.Plain = done-exact _
operands-exact op forms.One = image-exact _ _ u30-exact
operands-exact op forms.Two = image-exact _ _ (both-exact _ _ u30-exact u30-exact)
operands-exact op forms.Branch = image-exact _ _ s24-exact
operands-exact op forms.Switch = image-exact _ _ switch_offsets-exact
operands-exact op forms.Byte = image-exact _ _ signed_byte-exact
operands-exact op forms.Short = image-exact _ _ signed_short-exact
operands-exact op forms.ScopeObject = image-exact _ _ u8-exact
operands-exact op forms.Debug = image-exact _ _ (both-exact _ _ u8-exact (both-exact _ _ u30-exact (both-exact _ _ u8-exact u30-exact)))

pub instruction-exact : Exact (blame_first instruction)
unfolding instruction
instruction-exact = blamed-exact _ (image-exact _ _ (then-exact _ _ opcode-exact (λ o. operands-exact o.0 o.1)))

has_opcode : (x : RawInstr) (b : List ℕ) → instruction.spells x b → 1 ≤ length b
unfolding instruction opcode_part u8
has_opcode x b s = omega (arith, ap length s.1.2, length-append s.1.0 s.1.1, ap length s.1.3.1.0)

pub instruction-some : IsNonEmpty (blame_first instruction)
instruction-some = record { some = has_opcode }

pub pieces-exact : (n : ℕ) → Exact (pieces n)
unfolding pieces
pieces-exact n = fill-exact n n (blame_first instruction) instruction-exact

pub code_length-exact : Exact code_length
unfolding code_length
code_length-exact = checked-exact _ _ _ u30-exact

pub instruction_place-exact : (ss : List ℕ) → Exact (instruction_place ss)
unfolding instruction_place
instruction_place-exact ss = image-exact _ _ (checked-exact _ _ _ u30-exact)
