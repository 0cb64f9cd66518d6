use Rattle.std.proofs.Common.{◌≡◌, map, take}
use Rattle.abc_tidy_refs.specs.Nodes.{new_index}
use Rattle.abc_tidy_refs.proofs.indexed.TableIndexed.may_change.Given as goal

abbrev pub invariant-loop-item : goal.invariant-loop-item
invariant-loop-item g l = map (g.T.Indexed.renumbered (new_index l.numbers)) (take l.item-index l.item-items) ≡ take l.item-index l.item-items
