use Rattle.std.proofs.Common.{◌≡◌, ◌++◌, drop, map, take}
use Rattle.abc_tidy_refs.specs.Nodes.{new_index}
use Rattle.abc_tidy_refs.proofs.indexed.TableIndexed.renumber.Given as goal

abbrev pub invariant-loop-i : goal.invariant-loop-i
invariant-loop-i g l = l.self ≡ map (g.T.Indexed.renumbered (new_index l.numbers)) (take l.i l.initial.self) ++ drop l.i l.initial.self
