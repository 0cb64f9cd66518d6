use Rattle.std.proofs.Common.{◌≡◌, ◌++◌, map, take}
use Rattle.abc_tidy_refs.specs.Nodes.{node_of}
use Rattle.abc_tidy_entries.proofs.entries.add_nodes.Given as goal

abbrev pub invariant-loop-index : goal.invariant-loop-index
invariant-loop-index l = l.parts ≡ l.initial.parts ++ map (node_of l.counts l.pool) (take l.index-index l.index-items)
