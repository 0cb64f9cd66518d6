use Rattle.std.proofs.Common.{◌≡◌, ◌++◌, take}
use Rattle.abc_tidy_entries.specs.NameGraph.{names_among}
use Rattle.abc_tidy_entries.proofs.cycles.add_names.Given as goal

abbrev pub invariant-loop-index : goal.invariant-loop-index
invariant-loop-index l = l.targets ≡ l.initial.targets ++ names_among l.count (take l.index-index l.indices)
