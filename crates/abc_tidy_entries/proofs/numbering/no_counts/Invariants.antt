use Rattle.std.proofs.Common.{◌≡◌, replicate}
use Rattle.abc_tidy_entries.proofs.numbering.no_counts.Given as goal

abbrev pub invariant-loop-pool : goal.invariant-loop-pool
invariant-loop-pool l = l.met ≡ replicate l._pool 0
