use Rattle.std.proofs.Common.{ℕ, subst}
use Rattle.std.specs.declared.result.Result.{Result}
use Rattle.abc_text_lines.specs.declared.reason.AsmReason.{AsmReason}
use Rattle.abc_text_operands.specs.Answers.{AnswersOperand}
use Rattle.abc_text_reader.proofs.lower.EntriesFlat.line.Goals as goal

pub returns : goal.returns
returns c instances labels places = subst (λ (r : Result (ℕ × ℕ) AsmReason). AnswersOperand c.told.result r) (c.entry_line.ensures labels) c.told.ensures
