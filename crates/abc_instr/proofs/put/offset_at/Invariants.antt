use Rattle.std.proofs.Common.{◌≡◌, ◌+◌, ◌-◌, drop}
use Rattle.abc_file_types.specs.CodeBytes.{code_len, with_lengths}
use Rattle.abc_file_types.specs.Starts.{start}
use Rattle.abc_instr.proofs.put.offset_at.Given as goal

abbrev pub invariant-loop-i : goal.invariant-loop-i
invariant-loop-i l = (l.here + start (with_lengths (drop l.i l.code)) (l.index - l.i) ≡ start (with_lengths l.code) l.index) × (l.here + code_len (drop l.i l.code) ≡ code_len l.code)
