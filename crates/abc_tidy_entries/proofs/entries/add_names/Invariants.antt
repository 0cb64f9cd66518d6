use Rattle.std.proofs.Common.{◌≡◌, ◌++◌, map, take}
use Rattle.abc_tidy_entries.specs.Entries.{entry_name_parts}
use Rattle.abc_tidy_entries.proofs.entries.add_names.Given as goal

abbrev pub invariant-loop-name : goal.invariant-loop-name
invariant-loop-name l = l.graph ≡ l.initial.graph ++ map (entry_name_parts l.counts) (take l.name-index l.name-items)
