use Rattle.std.proofs.Common.{length, take}
use Rattle.abc_tables.proofs.Windows.{Walked}
use Rattle.abc_tables.proofs.fitting_bodies.are_distinct_from.Given as goal

abbrev pub invariant-loop-body : goal.invariant-loop-body
invariant-loop-body l = Walked l.low (length l.initial.seen) l.seen (take l.body-index l.bodies)
