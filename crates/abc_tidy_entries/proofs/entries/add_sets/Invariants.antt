use Rattle.std.proofs.Common.{◌≡◌, ◌++◌, map, take}
use Rattle.abc_tidy_entries.specs.Entries.{set_parts}
use Rattle.abc_tidy_entries.proofs.entries.add_sets.Given as goal

abbrev pub invariant-loop-set : goal.invariant-loop-set
invariant-loop-set l = l.graph ≡ l.initial.graph ++ map (set_parts l.counts) (take l.set-index l.set-items)
