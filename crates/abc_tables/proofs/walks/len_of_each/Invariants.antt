use Rattle.std.proofs.Common.{take}
use Rattle.abc_tables.proofs.Walking.{SoFar}
use Rattle.abc_tables.proofs.walks.len_of_each.Given as goal

abbrev pub invariant-loop-item : goal.invariant-loop-item
invariant-loop-item g l = SoFar (g.T.Fitting.fits l.sizes) g.T.Measured.len (take l.item-index l.item-items) l.len
