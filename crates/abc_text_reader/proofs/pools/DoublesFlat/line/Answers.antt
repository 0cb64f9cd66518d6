use Rattle.std.proofs.Common.{subst}
use Rattle.std.specs.declared.result.Result.{Result}
use Rattle.abc_text_lines.specs.declared.reason.AsmReason.{AsmReason}
use Rattle.abc_file_types.specs.declared.tables.Eight.{Eight}
use Rattle.abc_text_operands.specs.Answers.{AnswersOperand}
use Rattle.abc_text_reader.proofs.pools.DoublesFlat.line.Goals as goal

pub returns : goal.returns
returns c instances labels places = subst (λ (r : Result Eight AsmReason). AnswersOperand c.told.result r) (c.double_line.ensures labels) c.told.ensures
