use Rattle.std.proofs.Common.{◌≡◌, ◌∷◌, length, map, take}
use Rattle.abc_tidy_refs.specs.Refs.{file_refs}
use Rattle.abc_tidy_entries.specs.NameGraph.{name_indices, name_targets, names_among}
use Rattle.abc_tidy_entries.proofs.cycles.name_graph.Given as goal

abbrev pub invariant-loop-name : goal.invariant-loop-name
invariant-loop-name l = l.graph ≡ names_among (length l.abc.names) (name_indices (file_refs l.abc)) ∷ map (name_targets (length l.abc.names)) (take l.name-index l.name-items)
