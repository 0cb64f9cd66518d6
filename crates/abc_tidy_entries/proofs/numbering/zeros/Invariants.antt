use Rattle.std.proofs.Common.{◌≡◌, replicate}
use Rattle.abc_tidy_entries.proofs.numbering.zeros.Given as goal

abbrev pub invariant-loop-i : goal.invariant-loop-i
invariant-loop-i l = l.table ≡ replicate l._i 0
