use Rattle.std.proofs.Common.{◌≡◌, ◌+◌, drop}
use Rattle.abc_cli_answers.specs.Measured.{instruction_count}
use Rattle.abc_cli_answers.proofs.measures.instruction_count.Given as goal

abbrev pub invariant-loop-body : goal.invariant-loop-body
invariant-loop-body l = l.count + instruction_count (drop l.body-index l.bodies) ≡ instruction_count l.bodies
