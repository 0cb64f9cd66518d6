-- By the kind.
use Rattle.std.proofs.Common.{sym, subst}
use Rattle.std.specs.declared.result.Result.{Result}
use Rattle.abc_text_lines.specs.declared.reason.AsmReason.{AsmReason}
use Rattle.abc_file_types.specs.declared.names.Multiname.{Multiname}
use Rattle.abc_file_types.specs.declared.names.MultinameKind.{MultinameKind}
use Rattle.abc_text_lines.specs.Lineforms as forms
use Rattle.abc_text_operands.specs.Answers.{AnswersOperand}
use Rattle.abc_text_operands.specs.Joined.{line_result}
use Rattle.abc_text_tokens.specs.Walks.{tokens_of}
use Rattle.abc_text_operands.proofs.multinames.name_fields.Goals as goal

pub returns-in-QName : goal.returns-in-QName
returns-in-QName c labels =
    subst (λ (k : MultinameKind). AnswersOperand c.told.result (line_result (forms.multiname_operands c.args.sizes.now k) labels (tokens_of c.args.fields.now))) (sym c.in-QName.is)
    (subst (λ (r : Result Multiname AsmReason). AnswersOperand c.told.result r) (c.qualified.ensures labels) c.told.ensures)

pub returns-in-Rt : goal.returns-in-Rt
returns-in-Rt c labels =
    subst (λ (k : MultinameKind). AnswersOperand c.told-in-Rt.result (line_result (forms.multiname_operands c.args.sizes.now k) labels (tokens_of c.args.fields.now))) (sym c.in-Rt.is)
    (subst (λ (r : Result Multiname AsmReason). AnswersOperand c.told-in-Rt.result r) (c.late_space.ensures labels) c.told-in-Rt.ensures)

pub returns-in-RtL : goal.returns-in-RtL
returns-in-RtL c labels =
    subst (λ (k : MultinameKind). AnswersOperand c.told-in-RtL.result (line_result (forms.multiname_operands c.args.sizes.now k) labels (tokens_of c.args.fields.now))) (sym c.in-RtL.is)
    (subst (λ (r : Result Multiname AsmReason). AnswersOperand c.told-in-RtL.result r) (c.late.ensures labels) c.told-in-RtL.ensures)

pub returns-in-Multi : goal.returns-in-Multi
returns-in-Multi c labels =
    subst (λ (k : MultinameKind). AnswersOperand c.told-in-Multi.result (line_result (forms.multiname_operands c.args.sizes.now k) labels (tokens_of c.args.fields.now))) (sym c.in-Multi.is)
    (subst (λ (r : Result Multiname AsmReason). AnswersOperand c.told-in-Multi.result r) (c.in_set.ensures labels) c.told-in-Multi.ensures)

pub returns-in-MultiL : goal.returns-in-MultiL
returns-in-MultiL c labels =
    subst (λ (k : MultinameKind). AnswersOperand c.told-in-MultiL.result (line_result (forms.multiname_operands c.args.sizes.now k) labels (tokens_of c.args.fields.now))) (sym c.in-MultiL.is)
    (subst (λ (r : Result Multiname AsmReason). AnswersOperand c.told-in-MultiL.result r) (c.late_name.ensures labels) c.told-in-MultiL.ensures)

pub returns-in-TypeName : goal.returns-in-TypeName
returns-in-TypeName c labels = subst (λ (k : MultinameKind). AnswersOperand c.type_name.result (line_result (forms.multiname_operands c.args.sizes.now k) labels (tokens_of c.args.fields.now))) (sym c.in-TypeName.is) (c.type_name.ensures labels)
