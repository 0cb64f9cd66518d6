-- What is found so far, and else among the lines that are left, is what is found among all.
use Rattle.std.proofs.Common.{◌≡◌, ℕ, List, ◌+◌, ◌≤◌}
use Rattle.abc_text_tokens.specs.Cursor.{AreNumbered, most_lines, raws_at}
use Rattle.abc_text_tokens.specs.Labels.{found_label}
use Rattle.abc_text_tokens.proofs.labels.note_rest.Given as goal

abbrev pub invariant-loop-next : goal.invariant-loop-next
invariant-loop-next l = record {
  numbered : AreNumbered l.next;
  few : l.instructions + most_lines l.next ≤ l.before + most_lines l.first;
  found : (name : List ℕ) → found_label l.labels l.instructions (raws_at l.next) name ≡ found_label l.initial.labels l.before (raws_at l.first) name;
}

abbrev pub decreases-loop-next : goal.decreases-loop-next
decreases-loop-next l = most_lines l.next
