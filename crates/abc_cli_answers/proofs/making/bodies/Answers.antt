use Rattle.std.proofs.Common.{[], ◌∷◌, ◌++◌, ◌+◌, ◌*◌, ap, ap₂, refl, ◌∙◌, arith}
use Rattle.abc_cli_answers.specs.Codes.{drawn_code}
use Rattle.abc_cli_answers.specs.Draws.{draws_after}
use Rattle.abc_cli_answers.specs.Generated.{generated_body, first_body, function_body}
use Rattle.abc_cli_answers.proofs.Listed.{one_more, three_more}
use Rattle.abc_cli_answers.proofs.making.bodies.Goals as goal

pub loop-function-init : goal.loop-function-init
loop-function-init c =
    (c.in_ok-push.ensures.ok ∙ ap₂ (λ xs b. xs ++ b ∷ []) c.in_ok-bodies.ensures (c.body.ensures ∙ ap (generated_body 0 2 1) c.in_ok-first_code.ensures), refl, c.new-gathering.ensures)

pub loop-function-preserved : goal.loop-function-preserved
loop-function-preserved c =
    let n = c.loop-function.function in
    let seed = c.args.seed in
    let drawn = c.loop-function.invariant.1 in
    let code = c.in_ok-code.ensures.code.0 ∙ ap drawn_code drawn ∙ ap (λ k. drawn_code (draws_after seed (3 * k))) (omega arith) in (
      one_more (function_body seed) n (first_body c.args.functions ∷ []) _ _ _ c.in_ok-push-2.ensures.ok c.loop-function.invariant.0
          (c.body-in-loop-function.ensures ∙ ap (generated_body (n + 1) 3 0) code),
      c.in_ok-code.ensures.draws ∙ ap (λ x. draws_after x 3) drawn ∙ three_more seed n,
      c.in_ok-code.ensures.code.1,
    )
