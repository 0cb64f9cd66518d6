use Rattle.std.proofs.Common.{◌≡◌, ◌+◌, ◌≤◌, drop}
use Rattle.abc_text_tokens.specs.Cursor.{AreNumbered, most_lines, raws_at}
use Rattle.abc_text_tokens.specs.Ahead.{FollowsLine}
use Rattle.abc_text_tokens.specs.Counts.{count_raws}
use Rattle.abc_text_tokens.proofs.counting.count_ahead.Given as goal

abbrev pub invariant-loop-next : goal.invariant-loop-next
invariant-loop-next l = record {
  numbered : AreNumbered l.next;
  ahead : FollowsLine l.next (drop l.met l.ahead);
  few : l.count + most_lines l.next ≤ most_lines l.first;
  counted : l.count + count_raws l.part l.place (raws_at l.next) ≡ count_raws l.part l.place (raws_at l.first);
}

abbrev pub decreases-loop-next : goal.decreases-loop-next
decreases-loop-next l = most_lines l.next
