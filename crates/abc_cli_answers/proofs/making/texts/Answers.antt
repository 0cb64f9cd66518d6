use Rattle.std.proofs.Common.{[], ◌∷◌, codes}
use Rattle.abc_cli_answers.specs.Generated.{function_name}
use Rattle.abc_cli_answers.proofs.Listed.{one_more}
use Rattle.abc_cli_answers.proofs.making.texts.Goals as goal

pub loop-function-preserved : goal.loop-function-preserved
loop-function-preserved c =
    one_more function_name c.loop-function.function (codes "trace" ∷ codes "int" ∷ []) _ _ _ c.in_ok-push-3.ensures.ok c.loop-function.invariant c.in_ok-function_name.ensures
