use Rattle.std.proofs.Common.{◌≡◌, ◌-◌, ◌≤◌, length}
use Rattle.abc_instr.specs.Marks.{mark_at}
use Rattle.abc_instr.specs.Runs.{Runs}
use Rattle.abc_instr.proofs.run.run.Given as goal

abbrev pub invariant-loop-at : goal.invariant-loop-at
invariant-loop-at l = record {
  most : l.at ≤ l.most;
  runs : Runs l.bytes l.here l.moved (mark_at l.initial.marks) (mark_at l.marks) l.initial.holes.items l.holes.items l.at;
  places : length l.marks ≡ length l.initial.marks;
}

abbrev pub decreases-loop-at : goal.decreases-loop-at
decreases-loop-at l = l.most - l.at
