use Rattle.std.proofs.Common.{◌≡◌, [], ◌∷◌, map}
use Rattle.std.specs.List.{range_with_len}
use Rattle.abc_cli_answers.specs.Generated.{function_signature, signature}
use Rattle.abc_cli_answers.proofs.making.signatures.Given as goal

abbrev pub invariant-loop-function : goal.invariant-loop-function
invariant-loop-function v = v.methods ≡ signature 0 [] ∷ map function_signature (range_with_len 1 v.function)
