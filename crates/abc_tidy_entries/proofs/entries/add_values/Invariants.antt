use Rattle.std.proofs.Common.{◌≡◌, ◌++◌, [], replicate}
use Rattle.abc_tidy_entries.proofs.entries.add_values.Given as goal

abbrev pub invariant-loop-i : goal.invariant-loop-i
invariant-loop-i l = l.graph ≡ l.initial.graph ++ replicate l._i []
