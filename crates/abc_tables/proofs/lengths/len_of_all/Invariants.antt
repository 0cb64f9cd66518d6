use Rattle.std.proofs.Common.{◌≡◌, ◌-◌, ◌^◌, min, take}
use Rattle.std.specs.List.{sum_by}
use Rattle.abc_tables.proofs.lengths.len_of_all.Given as goal

abbrev pub invariant-loop-item : goal.invariant-loop-item
invariant-loop-item g l = l.len ≡ min (sum_by g.T.Measured.len (take l.item-index l.item-items)) (2 ^ 64 - 1)
