use Rattle.std.proofs.Common.{take}
use Rattle.abc_file_types.proofs.Readiness.{SpelledSoFar}
use Rattle.abc_file_types.proofs.ready.spelled_code_len.Given as goal

abbrev pub invariant-loop-instr : goal.invariant-loop-instr
invariant-loop-instr l = SpelledSoFar l.count (take l.instr-index l.code) l.len
