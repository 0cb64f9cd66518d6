-- For the prover alone: what a row of the code's table of instructions says. Its name is padded with blanks.
use Rattle.std.specs.Prelude.{ℕ, List, option_map, take}
use Rattle.std.specs.declared.option.Option.{Option}
use Rattle.abc_file_types.specs.declared.opcodes.Form.{Form}
use Rattle.abc_file_types.specs.declared.opcodes.Pool.{Pool}
use Rattle.abc_file_types.specs.declared.opcodes.OpInfo.{OpInfo}

-- a name, how many of its bytes stand before the blanks, what follows the opcode, and the pool
abbrev pub TableRow : Type 0
TableRow = List ℕ × ℕ × Form × Pool

abbrev pub name_in_row : Option TableRow → Option (List ℕ)
name_in_row = option_map (λ row. take row.1 row.0)

abbrev pub info_in : Option TableRow → Option OpInfo
info_in = option_map (λ row. record { form = row.2; pool = row.3 })
