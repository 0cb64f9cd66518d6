use Rattle.std.proofs.Common.{◌≡◌, take}
use Rattle.std.specs.List.{flat_map, fold}
use Rattle.abc_tidy_refs.proofs.indexed.TableIndexed.note_refs.Given as goal

abbrev pub invariant-loop-item : goal.invariant-loop-item
invariant-loop-item g l = l.found ≡ fold g.N.Noting.with_ref l.initial.found (flat_map g.T.Indexed.refs (take l.item-index l.item-items))
