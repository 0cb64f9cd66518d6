use Rattle.std.proofs.Common.{◌≡◌, drop}
use Rattle.abc_instr.specs.Marks.{mark_at}
use Rattle.abc_instr.specs.Scanning.{mended}
use Rattle.abc_instr.proofs.holes.mend.Given as goal

abbrev pub invariant-loop-hole : goal.invariant-loop-hole
invariant-loop-hole l = mended (mark_at l.marks) l.code (drop l.hole-index l.holes) ≡ mended (mark_at l.marks) l.initial.code l.holes
