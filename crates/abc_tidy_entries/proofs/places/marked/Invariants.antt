use Rattle.std.proofs.Common.{◌≤◌, length}
use Rattle.abc_tidy_entries.specs.Heads.{HoldsMarked}
use Rattle.abc_tidy_entries.proofs.places.marked.Given as goal

abbrev pub invariant-loop-i : goal.invariant-loop-i
invariant-loop-i g l = record {
  many : length l.kept ≤ l.i;
  holds : HoldsMarked l.marks l.begin l.values l.i l.kept;
}
