use Rattle.std.proofs.Common.{◌≡◌, ◌++◌, map, take}
use Rattle.abc_tidy_entries.specs.Entries.{space_parts}
use Rattle.abc_tidy_entries.proofs.entries.add_spaces.Given as goal

abbrev pub invariant-loop-space : goal.invariant-loop-space
invariant-loop-space l = l.graph ≡ l.initial.graph ++ map (space_parts l.counts) (take l.space-index l.space-items)
