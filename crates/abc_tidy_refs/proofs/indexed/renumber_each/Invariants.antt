use Rattle.std.proofs.Common.{◌≡◌, ◌++◌, drop, map, take}
use Rattle.abc_tidy_refs.specs.Nodes.{new_index}
use Rattle.abc_tidy_refs.proofs.indexed.renumber_each.Given as goal

abbrev pub invariant-loop-i : goal.invariant-loop-i
invariant-loop-i l = l.indices ≡ map (new_index l.numbers l.pool) (take l.i l.initial.indices) ++ drop l.i l.initial.indices
