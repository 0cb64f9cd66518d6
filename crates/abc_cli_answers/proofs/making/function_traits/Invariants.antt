use Rattle.std.proofs.Common.{◌≡◌, map}
use Rattle.std.specs.List.{range_with_len}
use Rattle.abc_cli_answers.specs.Generated.{function_trait}
use Rattle.abc_cli_answers.proofs.making.function_traits.Given as goal

abbrev pub invariant-loop-function : goal.invariant-loop-function
invariant-loop-function v = v.traits ≡ map function_trait (range_with_len 1 v.function)
