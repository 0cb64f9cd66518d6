use Rattle.std.proofs.Common.{◌≡◌, ◌++◌, drop}
use Rattle.abc_cli_answers.specs.Placed.{starts_in}
use Rattle.abc_cli_answers.proofs.placing.places_of.Given as goal

abbrev pub invariant-loop-body : goal.invariant-loop-body
invariant-loop-body l = l.places ++ starts_in (drop l.body-index l.bodies) ≡ starts_in l.bodies
