use Rattle.std.proofs.Common.{◌≡◌, ℕ, List, ◌++◌, take, vec_len}
use Rattle.abc_disasm.specs.Marks.{AreTargetMarks}
use Rattle.abc_disasm.proofs.marks.mark_all.Given as goal

abbrev pub invariant-loop-target : goal.invariant-loop-target
invariant-loop-target l = record {
  len : vec_len l.marks ≡ vec_len l.initial.marks;
  marked : (named : List ℕ) → AreTargetMarks l.initial.marks.items named → AreTargetMarks l.marks.items (named ++ take l.target-index l.targets);
}
