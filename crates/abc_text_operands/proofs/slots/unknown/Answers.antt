use Rattle.std.proofs.Common.{◌≡◌, ℕ, List, [], ◌∷◌, length, refl, sym, ap, ◌∙◌}
use Rattle.abc_text_lines.specs.declared.reason.AsmReason.{AsmReason}
use Rattle.abc_text_lines.specs.declared.reason.AsmReason.TheVariants as reasons
use Rattle.abc_text_lines.specs.Lines.{Label}
use Rattle.abc_text_lines.specs.Kinds.{value_kind_operand}
use Rattle.abc_text_operands.specs.Joined.{earlier_reason}
use Rattle.abc_text_tokens.specs.declared.token.Token as code
use Rattle.abc_text_tokens.specs.Walks.{tokens_of}
use Rattle.abc_text_operands.specs.Numbered.{unknown_value}
use Rattle.abc_text_operands.proofs.slots.unknown.Goals as goal

other_count : (r : AsmReason) (labels : List Label) (ts : List code.Token) → ¬ (length ts ≡ 1) → reasons.Operands ≡ unknown_value r labels (tokens_of ts)
other_count r labels [] many = refl
other_count r labels (t ∷ []) many = absurd (many refl)
other_count r labels (t ∷ u ∷ ts) many = refl

pub returns-in-Some : goal.returns-in-Some
unfolding value_kind_operand
returns-in-Some c labels = c.earlier.ensures ∙ ap (earlier_reason c.args.reason) c.value_kind.ensures ∙ sym (ap (λ (l : List code.Token). unknown_value c.args.reason labels (tokens_of l)) c.in-Some.ensures)

pub returns-in-None : goal.returns-in-None
returns-in-None c labels = other_count c.args.reason labels c.args.kinds.now c.in-None.ensures
