use Rattle.std.proofs.Common.{[], ◌∷◌, ap, ◌∙◌}
use Rattle.abc_cli_answers.specs.Generated.{function_signature, signature}
use Rattle.abc_cli_answers.proofs.Listed.{one_more}
use Rattle.abc_cli_answers.proofs.making.signatures.Goals as goal

pub loop-function-preserved : goal.loop-function-preserved
loop-function-preserved c =
    one_more function_signature c.loop-function.function (signature 0 [] ∷ []) _ _ _ c.in_ok-push-2.ensures.ok c.loop-function.invariant
    (c.signature-in-loop-function.ensures ∙ ap (signature 2) c.in_ok-params.ensures)
