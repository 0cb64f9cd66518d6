use Rattle.std.proofs.Common.{◌≡◌, replicate, false}
use Rattle.abc_tidy_entries.proofs.marks.no_marks.Given as goal

abbrev pub invariant-loop-i : goal.invariant-loop-i
invariant-loop-i l = l.marks ≡ replicate l._i false
