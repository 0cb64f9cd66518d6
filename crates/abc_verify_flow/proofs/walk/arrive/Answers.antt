use Rattle.std.proofs.Common.{◌≡◌}
use Rattle.std.specs.Prelude.{Bool, true, false, not}
use Rattle.abc_verify_flow.proofs.Places.{arrived_not}
use Rattle.abc_verify_flow.proofs.walk.arrive.Goals as goal

off : (b : Bool) → not b ≡ true → b ≡ false
off true e = absurd cc
off false e = cc

pub returns-then-not-step : goal.returns-then-not-step
returns-then-not-step g c = arrived_not _ _ _ _ _ _ _ _ (off _ c.if-not-step.true) c.requires.opened
