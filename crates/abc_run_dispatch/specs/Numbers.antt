-- What follows the opcode in an instruction.
use Rattle.std.specs.Prelude.{ℕ}
use Rattle.abc_file_types.specs.declared.code.Instr.{Instr}
use Rattle.abc_file_types.specs.declared.code.Instr.TheVariants as instrs

-- the first number below 2^30, or the target of a branch
abbrev pub first_small_number : Instr → ℕ
first_small_number (instrs.One op n) = n
first_small_number (instrs.Two op n count) = n
first_small_number (instrs.Branch op target) = target
first_small_number i = 0
