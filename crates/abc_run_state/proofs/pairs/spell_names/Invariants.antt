use Rattle.std.proofs.Common.{◌≡◌, ◌≤◌, length}
use Rattle.abc_frames.specs.Frame.{newest}
use Rattle.abc_run_state.specs.Outer.{setting_in, world}
use Rattle.abc_run_state.specs.Standing.{IsSet}
use Rattle.abc_run_state.specs.Pairs.{pair_texts, with_operands}
use Rattle.abc_run_state.proofs.pairs.spell_names.Given as goal

abbrev pub invariant-loop-left : goal.invariant-loop-left
invariant-loop-left g l = record {
  fewer : l.left ≤ l.pairs;
  set : IsSet l.linked l.s;
  part : pair_texts (setting_in l.linked g.out) l.pairs (newest l.initial.s.frames).stack (world l.initial.s g.out) ≡ pair_texts (setting_in l.linked g.out) l.left (newest l.s.frames).stack (world l.s g.out);
  frames : l.s.frames ≡ with_operands (newest l.s.frames).stack l.initial.s.frames;
  long : length (newest l.s.frames).stack ≡ length (newest l.initial.s.frames).stack;
  given : l.s.given ≡ l.initial.s.given;
}

abbrev pub decreases-loop-left : goal.decreases-loop-left
decreases-loop-left g l = l.left

abbrev pub ghost-spell : goal.ghost-spell
ghost-spell g a = g.out
