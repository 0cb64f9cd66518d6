use Rattle.std.proofs.Common.{◌≡◌, ◌≤◌}
use Rattle.abc_meaning.specs.Newing.{set_all}
use Rattle.abc_frames.specs.Frame.{newest}
use Rattle.abc_run_state.specs.Outer.{Outer, setting_in, world}
use Rattle.abc_run_state.specs.Standing.{Stays}
use Rattle.abc_run_state.specs.Pairs.{pairs_at}
use Rattle.abc_run_state.proofs.pairs.put_all.Given as goal

abbrev pub invariant-loop-left : goal.invariant-loop-left
invariant-loop-left l = record {
  fewer : l.left ≤ l.pairs;
  stays : Stays l.linked l.initial.s l.s;
  part : (out : Outer) → set_all (setting_in l.linked out) l.o (pairs_at l.pairs (newest l.initial.s.frames).stack) (world l.initial.s out) ≡ set_all (setting_in l.linked out) l.o (pairs_at l.left (newest l.initial.s.frames).stack) (world l.s out);
}

abbrev pub decreases-loop-left : goal.decreases-loop-left
decreases-loop-left l = l.left
