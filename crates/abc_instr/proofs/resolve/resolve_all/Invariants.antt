use Rattle.std.proofs.Common.{◌≡◌, drop, length}
use Rattle.abc_instr.specs.Reading.{with_targets}
use Rattle.abc_instr.proofs.resolve.resolve_all.Given as goal

abbrev pub invariant-loop-aim : goal.invariant-loop-aim
invariant-loop-aim l = (with_targets l.starts (drop l.aim-index l.aims) l.instrs ≡ with_targets l.starts l.aims l.initial.instrs) × (length l.instrs ≡ length l.initial.instrs)
