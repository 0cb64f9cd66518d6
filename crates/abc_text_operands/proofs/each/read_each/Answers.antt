-- One token more.
use Rattle.std.proofs.Common.{◌≡◌, ◌+◌, ◌++◌, ◌∷◌, [], ℕ, List, Some, drop, sym, ap, ◌∙◌}
use Rattle.std.specs.declared.option.Option.{Option}
use Rattle.abc_text_lines.specs.declared.reason.AsmReason.{AsmReason}
use Rattle.abc_text_tokens.specs.Walks.{tokens_of}
use Rattle.abc_text_operands.specs.Each.{each_result, onto_operands, so_far}
use Rattle.abc_text_operands.proofs.Eaching.{reason_more, value_more}
use Rattle.abc_text_operands.proofs.each.read_each.Goals as goal
use Rattle.abc_text_operands.proofs.each.read_each.Goals.{in-Ok+in-Ok-push, in-Err}

pub loop-token-preserved : goal.loop-token-preserved
loop-token-preserved g c =
    let read = g.E.Element.reads c.args.element.now in
    let ts = c.args.tokens.now in
    let i = c.loop-token.token-index in
    let rest = each_result read (tokens_of (drop (i + 1) ts)) in
    elim c.match-read.branch [
      | in-Ok+in-Ok-push w ↦
          ap (λ (items : List ℕ). onto_operands (so_far c.match-read.first items) rest) (w.items-is ∙ w.in-Ok-push.ensures.ok)
          ∙ ap (λ (first : Option AsmReason). onto_operands (so_far first (c.loop-token.items ++ w.in-Ok.value ∷ [])) rest) w.first-is
          ∙ value_more read ts i w.in-Ok.value _ c.loop-token.first c.loop-token.items (each_result read (tokens_of ts)) c.loop-token-test.true w.in-Ok.ensures c.loop-token.invariant
      | in-Err w ↦
          ap (λ (items : List ℕ). onto_operands (so_far c.match-read.first items) rest) w.items-is
          ∙ ap (λ (first : Option AsmReason). onto_operands (so_far first c.loop-token.items) rest) (w.first-is ∙ ap (λ (r : AsmReason). Some r) w.sooner.ensures)
          ∙ reason_more read ts i w.in-Err.reason _ c.loop-token.first c.loop-token.items (each_result read (tokens_of ts)) c.loop-token-test.true w.in-Err.ensures c.loop-token.invariant
    ]
