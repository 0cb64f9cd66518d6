use Rattle.std.proofs.Common.{◌≡◌, map, take}
use Rattle.abc_tidy_refs.specs.Nodes.{new_index}
use Rattle.abc_tidy_refs.proofs.indexed.renumber_all.Given as goal

abbrev pub invariant-loop-index : goal.invariant-loop-index
invariant-loop-index l = l.new ≡ map (new_index l.numbers l.pool) (take l.index-index l.index-items)
