use Rattle.std.proofs.Common.{◌≡◌, take}
use Rattle.abc_tidy_entries.specs.NameGraph.{name_indices}
use Rattle.abc_tidy_entries.proofs.cycles.name_indices.Given as goal

abbrev pub invariant-loop-index : goal.invariant-loop-index
invariant-loop-index l = l.indices ≡ name_indices (take l.index-index l.refs)
