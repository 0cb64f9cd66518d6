use Rattle.std.proofs.Common.{◌≡◌, take}
use Rattle.std.specs.List.{fold}
use Rattle.abc_tidy_refs.specs.Refs.{refs_of}
use Rattle.abc_tidy_refs.proofs.noting.note_each.Given as goal

abbrev pub invariant-loop-index : goal.invariant-loop-index
invariant-loop-index g l = l.found ≡ fold g.N.Noting.with_ref l.initial.found (refs_of l.pool (take l.index-index l.index-items))
