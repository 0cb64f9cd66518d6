use Rattle.std.proofs.Common.{subst}
use Rattle.std.specs.declared.result.Result.{Result}
use Rattle.abc_text_lines.specs.declared.reason.AsmReason.{AsmReason}
use Rattle.abc_file_types.specs.declared.names.Namespace.{Namespace}
use Rattle.abc_text_operands.specs.Answers.{AnswersOperand}
use Rattle.abc_text_reader.proofs.pools.NamespacesFlat.line.Goals as goal

pub returns : goal.returns
returns c instances labels places = subst (λ (r : Result Namespace AsmReason). AnswersOperand c.told.result r) (c.namespace_line.ensures labels) c.told.ensures
