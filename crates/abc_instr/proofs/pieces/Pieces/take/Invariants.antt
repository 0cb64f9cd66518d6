use Rattle.abc_instr.specs.Pieces.{SoFar}
use Rattle.abc_instr.proofs.pieces.Pieces.take.Given as goal

abbrev pub invariant-loop-i : goal.invariant-loop-i
invariant-loop-i l = SoFar l.code l.i l.here l.self
