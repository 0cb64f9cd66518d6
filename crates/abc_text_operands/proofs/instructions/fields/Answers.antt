-- By the form.
use Rattle.std.proofs.Common.{sym, subst}
use Rattle.std.specs.declared.result.Result.{Result}
use Rattle.abc_text_lines.specs.declared.reason.AsmReason.{AsmReason}
use Rattle.abc_file_types.specs.declared.code.Instr.{Instr}
use Rattle.abc_file_types.specs.declared.opcodes.Form.{Form}
use Rattle.abc_text_lines.specs.Lineforms as lines
use Rattle.abc_text_operands.specs.Answers.{AnswersOperand}
use Rattle.abc_text_operands.specs.Joined.{line_result}
use Rattle.abc_text_tokens.specs.Walks.{tokens_of}
use Rattle.abc_text_operands.proofs.instructions.fields.Goals as goal

pub returns-in-Plain : goal.returns-in-Plain
returns-in-Plain c labels places =
    subst (λ (k : Form). AnswersOperand c.told.result (line_result (lines.instruction_fields c.args.op k) labels (tokens_of c.args.tokens.now))) (sym c.in-Plain.is)
    (subst (λ (r : Result Instr AsmReason). AnswersOperand c.told.result r) (c.plain.ensures labels) c.told.ensures)

pub returns-in-One : goal.returns-in-One
returns-in-One c labels places =
    subst (λ (k : Form). AnswersOperand c.told-in-One.result (line_result (lines.instruction_fields c.args.op k) labels (tokens_of c.args.tokens.now))) (sym c.in-One.is)
    (subst (λ (r : Result Instr AsmReason). AnswersOperand c.told-in-One.result r) (c.number.ensures labels) c.told-in-One.ensures)

pub returns-in-Two : goal.returns-in-Two
returns-in-Two c labels places =
    subst (λ (k : Form). AnswersOperand c.told-in-Two.result (line_result (lines.instruction_fields c.args.op k) labels (tokens_of c.args.tokens.now))) (sym c.in-Two.is)
    (subst (λ (r : Result Instr AsmReason). AnswersOperand c.told-in-Two.result r) (c.two_numbers.ensures labels) c.told-in-Two.ensures)

pub returns-in-Branch : goal.returns-in-Branch
returns-in-Branch c labels places =
    subst (λ (k : Form). AnswersOperand c.told-in-Branch.result (line_result (lines.instruction_fields c.args.op k) labels (tokens_of c.args.tokens.now))) (sym c.in-Branch.is)
    (subst (λ (r : Result Instr AsmReason). AnswersOperand c.told-in-Branch.result r) (c.to_label.ensures labels places) c.told-in-Branch.ensures)

pub returns-in-Byte : goal.returns-in-Byte
returns-in-Byte c labels places =
    subst (λ (k : Form). AnswersOperand c.told-in-Byte.result (line_result (lines.instruction_fields c.args.op k) labels (tokens_of c.args.tokens.now))) (sym c.in-Byte.is)
    (subst (λ (r : Result Instr AsmReason). AnswersOperand c.told-in-Byte.result r) (c.small.ensures labels) c.told-in-Byte.ensures)

pub returns-in-Short : goal.returns-in-Short
returns-in-Short c labels places =
    subst (λ (k : Form). AnswersOperand c.told-in-Short.result (line_result (lines.instruction_fields c.args.op k) labels (tokens_of c.args.tokens.now))) (sym c.in-Short.is)
    (subst (λ (r : Result Instr AsmReason). AnswersOperand c.told-in-Short.result r) (c.short.ensures labels) c.told-in-Short.ensures)

pub returns-in-ScopeObject : goal.returns-in-ScopeObject
returns-in-ScopeObject c labels places =
    subst (λ (k : Form). AnswersOperand c.told-in-ScopeObject.result (line_result (lines.instruction_fields c.args.op k) labels (tokens_of c.args.tokens.now))) (sym c.in-ScopeObject.is)
    (subst (λ (r : Result Instr AsmReason). AnswersOperand c.told-in-ScopeObject.result r) (c.scope_object.ensures labels) c.told-in-ScopeObject.ensures)

pub returns-in-Debug : goal.returns-in-Debug
returns-in-Debug c labels places =
    subst (λ (k : Form). AnswersOperand c.told-in-Debug.result (line_result (lines.instruction_fields c.args.op k) labels (tokens_of c.args.tokens.now))) (sym c.in-Debug.is)
    (subst (λ (r : Result Instr AsmReason). AnswersOperand c.told-in-Debug.result r) (c.debug.ensures labels) c.told-in-Debug.ensures)

pub returns-in-Switch : goal.returns-in-Switch
returns-in-Switch c labels places = subst (λ (k : Form). AnswersOperand c.switch.result (line_result (lines.instruction_fields c.args.op k) labels (tokens_of c.args.tokens.now))) (sym c.in-Switch.is) (c.switch.ensures labels places)
