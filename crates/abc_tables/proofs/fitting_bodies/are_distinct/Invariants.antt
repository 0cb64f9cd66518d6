use Rattle.std.proofs.Common.{ℕ, ◌*◌, ◌<◌}
use Rattle.std.specs.Prelude.{AllPairs}
use Rattle.abc_tables.specs.declared.fitting_bodies.TheConstants.{WINDOW}
use Rattle.abc_tables.specs.Distinct.{DifferFrom}
use Rattle.abc_tables.proofs.fitting_bodies.are_distinct.Given as goal

abbrev pub invariant-loop-window : goal.invariant-loop-window
invariant-loop-window l = (w : ℕ) → w < l.window → AllPairs (DifferFrom (w * WINDOW) WINDOW) l.bodies
