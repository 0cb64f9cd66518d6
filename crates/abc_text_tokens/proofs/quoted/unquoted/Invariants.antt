use Rattle.std.proofs.Common.{◌≡◌, ◌-◌, ◌≤◌, ◌++◌, length, drop}
use Rattle.abc_text_tokens.specs.Walks.{quoted_text}
use Rattle.abc_text_tokens.proofs.quoted.unquoted.Given as goal

abbrev pub invariant-loop-i : goal.invariant-loop-i
invariant-loop-i l = record { within : l.i ≤ length l.quoted; made : l.text ++ quoted_text (drop l.i l.quoted) ≡ quoted_text l.quoted }

abbrev pub decreases-loop-i : goal.decreases-loop-i
decreases-loop-i l = length l.quoted - l.i
