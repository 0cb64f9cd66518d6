use Rattle.std.proofs.Common.{◌≡◌, length}
use Rattle.abc_tidy_entries.proofs.Marked.{AreMarked}
use Rattle.abc_tidy_entries.proofs.marks.marks_of.Given as goal

abbrev pub invariant-loop-node : goal.invariant-loop-node
invariant-loop-node l = record {
  many : length l.marks ≡ l.count;
  marked : AreMarked l.nodes l.node-index l.marks;
}
