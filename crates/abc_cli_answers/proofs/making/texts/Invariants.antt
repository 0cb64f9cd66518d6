use Rattle.std.proofs.Common.{◌≡◌, ◌∷◌, map, codes}
use Rattle.std.specs.List.{range_with_len}
use Rattle.abc_cli_answers.specs.Generated.{function_name}
use Rattle.abc_cli_answers.proofs.making.texts.Given as goal

abbrev pub invariant-loop-function : goal.invariant-loop-function
invariant-loop-function v = v.texts ≡ codes "trace" ∷ codes "int" ∷ map function_name (range_with_len 1 v.function)
