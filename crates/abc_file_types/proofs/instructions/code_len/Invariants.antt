use Rattle.std.proofs.Common.{◌≡◌, ◌+◌, ◌-◌, ◌^◌, ◌≤◌, min, drop}
use Rattle.abc_file_types.specs.CodeBytes.{code_len}
use Rattle.abc_file_types.proofs.instructions.code_len.Given as goal

abbrev pub invariant-loop-instr : goal.invariant-loop-instr
invariant-loop-instr l = (l.len ≤ 2 ^ 64 - 1) × (min (l.len + code_len (drop l.instr-index l.code)) (2 ^ 64 - 1) ≡ min (code_len l.code) (2 ^ 64 - 1))
