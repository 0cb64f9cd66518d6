use Rattle.std.proofs.Common.{◌-◌, ◌≤◌, length}
use Rattle.abc_text_tokens.proofs.Quoting.{Opened}
use Rattle.abc_text_tokens.proofs.quoted.quoted_len.Given as goal

abbrev pub invariant-loop-i : goal.invariant-loop-i
invariant-loop-i l = record { within : l.i ≤ length l.bytes; opened : Opened l.bytes l.i }

abbrev pub decreases-loop-i : goal.decreases-loop-i
decreases-loop-i l = length l.bytes - l.i
