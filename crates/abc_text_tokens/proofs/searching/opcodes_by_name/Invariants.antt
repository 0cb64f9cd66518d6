use Rattle.std.proofs.Common.{◌≡◌, ℕ, ◌-◌, List}
use Rattle.abc_file_types.specs.Opcodes.{names_of_opcodes}
use Rattle.abc_text_tokens.specs.Names.{either_of, found_name, opcode_from, opcode_of_name}
use Rattle.abc_text_tokens.proofs.searching.opcodes_by_name.Given as goal

abbrev pub invariant-loop-op : goal.invariant-loop-op
invariant-loop-op l = (name : List ℕ) → either_of (found_name l.opcodes name) (opcode_from (256 - l.op) l.op name) ≡ opcode_of_name names_of_opcodes name
