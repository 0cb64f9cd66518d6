use Rattle.std.proofs.Common.{subst}
use Rattle.std.specs.declared.result.Result.{Result}
use Rattle.abc_text_lines.specs.declared.reason.AsmReason.{AsmReason}
use Rattle.abc_file_types.specs.declared.code.Handler.{Handler}
use Rattle.abc_text_operands.specs.Answers.{AnswersOperand}
use Rattle.abc_text_reader.proofs.lower.HandlersFlat.line.Goals as goal

pub returns : goal.returns
returns c instances labels places = subst (λ (r : Result Handler AsmReason). AnswersOperand c.told.result r) (c.catch_line.ensures labels places) c.told.ensures
