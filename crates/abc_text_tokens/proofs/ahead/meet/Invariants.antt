-- Whatever follows the next line may be put behind those that were met.
use Rattle.std.proofs.Common.{List, ◌++◌}
use Rattle.abc_text_tokens.specs.Cursor.{AreNumbered, most_lines}
use Rattle.abc_text_tokens.specs.declared.line.Line.{Line}
use Rattle.abc_text_tokens.specs.Ahead.{FollowsLine}
use Rattle.abc_text_tokens.proofs.ahead.meet.Given as goal

abbrev pub invariant-loop-next : goal.invariant-loop-next
invariant-loop-next l = record {
  numbered : AreNumbered l.next;
  more : (more : List Line) → FollowsLine l.next more → FollowsLine l.first (l.ahead.items ++ more);
}

abbrev pub decreases-loop-next : goal.decreases-loop-next
decreases-loop-next l = most_lines l.next
