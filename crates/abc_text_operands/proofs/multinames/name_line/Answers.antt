-- By the kind.
use Rattle.std.proofs.Common.{sym, subst}
use Rattle.std.specs.declared.result.Result.{Result}
use Rattle.abc_text_lines.specs.declared.reason.AsmReason.{AsmReason}
use Rattle.abc_file_types.specs.declared.names.Multiname.{Multiname}
use Rattle.abc_text_operands.specs.Answers.{AnswersOperand}
use Rattle.abc_text_operands.proofs.Kinded.{name_empty, name_known, name_unknown}
use Rattle.abc_text_operands.proofs.multinames.name_line.Goals as goal

pub returns-in_default : goal.returns-in_default
returns-in_default c labels = name_empty c.args.sizes.now labels c.args.tokens.now c.in_default.ensures

pub returns-in-Ok : goal.returns-in-Ok
returns-in-Ok c labels =
    subst (λ (r : Result Multiname AsmReason). AnswersOperand c.name_fields.result r) (sym (name_known c.args.sizes.now labels c.args.tokens.now c.in-Some.kind c.in-Some.fields.now c.in-Ok.kind c.in-Some.ensures c.in-Ok.ensures)) (c.name_fields.ensures labels)

pub returns-in-Err : goal.returns-in-Err
returns-in-Err c labels = name_unknown c.args.sizes.now labels c.args.tokens.now c.in-Some.kind c.in-Some.fields.now c.in-Err.reason c.in-Some.ensures c.in-Err.ensures
