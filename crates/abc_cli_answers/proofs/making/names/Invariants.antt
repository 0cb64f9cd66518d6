use Rattle.std.proofs.Common.{◌≡◌, map}
use Rattle.std.specs.List.{range_with_len}
use Rattle.abc_cli_answers.specs.Generated.{public_name}
use Rattle.abc_cli_answers.proofs.making.names.Given as goal

abbrev pub invariant-loop-string : goal.invariant-loop-string
invariant-loop-string v = v.names ≡ map public_name (range_with_len 1 v.string)
