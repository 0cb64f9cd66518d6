use Rattle.std.proofs.Common.{◌≡◌, ◌*◌, [], ◌∷◌, map}
use Rattle.std.specs.List.{range_with_len}
use Rattle.abc_cli_answers.specs.Draws.{draws_after}
use Rattle.abc_cli_answers.specs.Generated.{first_body, function_body}
use Rattle.abc_cli_answers.proofs.making.bodies.Given as goal

abbrev pub invariant-loop-function : goal.invariant-loop-function
invariant-loop-function v =
    (v.bodies ≡ first_body v.functions ∷ map (function_body v.seed) (range_with_len 1 v.function)) × (v.draws.number ≡ draws_after v.seed (3 * v.function)) × (v.gathering ≡ [])
