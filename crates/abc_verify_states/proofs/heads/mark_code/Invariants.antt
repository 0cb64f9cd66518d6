use Rattle.std.proofs.Common.{take}
use Rattle.abc_verify_states.specs.Marking.{Marks, code_targets}
use Rattle.abc_verify_states.proofs.heads.mark_code.Given as goal

abbrev pub invariant-loop-instr : goal.invariant-loop-instr
invariant-loop-instr l = Marks (code_targets (take l.instr-index l.code)) l.initial.marks l.marks
