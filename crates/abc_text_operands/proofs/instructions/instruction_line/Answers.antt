-- By the opcode.
use Rattle.std.proofs.Common.{sym, subst}
use Rattle.std.specs.declared.result.Result.{Result}
use Rattle.abc_text_lines.specs.declared.reason.AsmReason.{AsmReason}
use Rattle.abc_file_types.specs.declared.code.Instr.{Instr}
use Rattle.abc_text_operands.specs.Answers.{AnswersOperand}
use Rattle.abc_text_tokens.specs.Walks.{tokens_of}
use Rattle.abc_text_operands.proofs.Coded.{by_info, by_none}
use Rattle.abc_text_operands.proofs.instructions.instruction_line.Goals as goal

pub returns-in-Some : goal.returns-in-Some
returns-in-Some c labels places = subst (λ (r : Result Instr AsmReason). AnswersOperand c.fields.result r) (sym (by_info c.args.op c.in-Some.info labels (tokens_of c.args.tokens.now) c.in-Some.ensures)) (c.fields.ensures labels places)

pub returns-in-None : goal.returns-in-None
returns-in-None c labels places = by_none c.args.op labels (tokens_of c.args.tokens.now) c.in-None.ensures
