use Rattle.std.proofs.Common.{take}
use Rattle.std.specs.Prelude.{IsTrue}
use Rattle.abc_tables.specs.Fitting.{FitsBody}
use Rattle.abc_tables.specs.Lengths.{body_len}
use Rattle.abc_tables.proofs.Rising.{Risen}
use Rattle.abc_tables.proofs.Walking.{SoFar}
use Rattle.abc_tables.proofs.fitting_bodies.walk.Given as goal

abbrev pub invariant-loop-body : goal.invariant-loop-body
invariant-loop-body l = SoFar (FitsBody l.sizes) body_len (take l.body-index l.bodies) l.walked.len × (IsTrue l.walked.rise → Risen l.least (take l.body-index l.bodies))
