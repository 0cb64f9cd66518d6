-- What is found so far, and else among the lines that are left, is what is found among all.
use Rattle.std.proofs.Common.{◌≡◌, ℕ, List, ◌+◌, ◌≤◌, Some, drop}
use Rattle.abc_text_tokens.specs.Cursor.{AreLinesNumbered, most_lines, raws_at}
use Rattle.abc_text_tokens.specs.Ahead.{FollowsLine}
use Rattle.abc_text_tokens.specs.Labels.{found_label}
use Rattle.abc_text_tokens.proofs.labels.note_met.Given as goal

abbrev pub invariant-loop-following : goal.invariant-loop-following
invariant-loop-following l = record {
  numbered : AreLinesNumbered l.line;
  few : l.instructions + most_lines (Some l.line) ≤ most_lines (Some l.first);
  ahead : FollowsLine (Some l.line) (drop l.following-index l.ahead);
  found : (name : List ℕ) → found_label l.labels l.instructions (raws_at (Some l.line)) name ≡ found_label l.initial.labels 0 (raws_at (Some l.first)) name;
}
