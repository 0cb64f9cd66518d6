use Rattle.std.proofs.Common.{◌≡◌, ◌≤◌, length}
use Rattle.abc_run_state.specs.Pairs.{with_operands}
use Rattle.abc_run_finish.specs.Turned.{turned_at}
use Rattle.abc_frames.specs.Frame.{newest}
use Rattle.abc_run_state.specs.Outer.{setting_in, world}
use Rattle.abc_run_state.specs.Standing.{IsSet}
use Rattle.abc_meaning.specs.Ops.{converts}
use Rattle.abc_run_finish.proofs.outward_arguments.convert_arguments.Given as goal

abbrev pub invariant-loop-left : goal.invariant-loop-left
invariant-loop-left g l = record {
  fewer : l.left ≤ l.count;
  set : IsSet l.linked l.s;
  part : turned_at (converts (setting_in l.linked g.out) l.to) l.count (newest l.initial.s.frames).stack (world l.initial.s g.out) ≡ turned_at (converts (setting_in l.linked g.out) l.to) l.left (newest l.s.frames).stack (world l.s g.out);
  frames : l.s.frames ≡ with_operands (newest l.s.frames).stack l.initial.s.frames;
  long : length (newest l.s.frames).stack ≡ length (newest l.initial.s.frames).stack;
  limit : l.s.given.limit ≡ l.initial.s.given.limit;
}

abbrev pub decreases-loop-left : goal.decreases-loop-left
decreases-loop-left g l = l.left

abbrev pub ghost-convert : goal.ghost-convert
ghost-convert g a = g.out
