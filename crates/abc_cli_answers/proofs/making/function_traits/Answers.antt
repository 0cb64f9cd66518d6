use Rattle.std.proofs.Common.{[], rules}
use Rattle.abc_cli_answers.specs.Generated.{function_trait}
use Rattle.abc_cli_answers.proofs.Listed.{one_more}
use Rattle.abc_cli_answers.proofs.making.function_traits.Goals as goal

pub loop-function-preserved : goal.loop-function-preserved
loop-function-preserved c = one_more function_trait c.loop-function.function [] _ _ _ c.in_ok-push.ensures.ok c.loop-function.invariant (search rules)
