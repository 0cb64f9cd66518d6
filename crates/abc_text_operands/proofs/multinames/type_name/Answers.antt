-- The base and the parameters.
use Rattle.std.proofs.Common.{◌≡◌, ℕ, List, Err, sym, subst}
use Rattle.std.specs.declared.result.Result.{Result}
use Rattle.abc_text_lines.specs.declared.reason.AsmReason.{AsmReason}
use Rattle.abc_file_types.specs.declared.names.Multiname.{Multiname}
use Rattle.abc_text_operands.specs.Answers.{AnswersOperand}
use Rattle.abc_text_operands.specs.declared.error.LineError.{LineError}
use Rattle.abc_text_tokens.specs.Walks.{tokens_of}
use Rattle.abc_text_operands.specs.Each.{each_result, index_in}
use Rattle.abc_text_operands.proofs.Kinded.{type_empty, type_made, type_refused}
use Rattle.abc_text_operands.proofs.multinames.type_name.Goals as goal

pub returns-in_default : goal.returns-in_default
returns-in_default c labels = type_empty c.args.sizes.now labels c.args.fields.now c.in_default.ensures

pub returns-in-Ok : goal.returns-in-Ok
returns-in-Ok c labels =
    subst (λ (r : Result Multiname AsmReason). AnswersOperand c.with_params.result r) (sym (type_made c.args.sizes.now labels c.args.fields.now c.in-Some.base c.in-Some.others.now c.entry_upto-base.result c.in-Ok.params c.in-Some.ensures c.entry_upto-base.ensures c.in-Ok.ensures)) c.with_params.ensures

pub returns-in-Err-Refused : goal.returns-in-Err-Refused
returns-in-Err-Refused c labels =
    let each : each_result (index_in c.args.sizes.now.names) (tokens_of c.in-Some.others.now) ≡ Err c.in-Err-Refused.reason =
    subst (λ (x : LineError). AnswersOperand {A = List ℕ} (Err x) (each_result (index_in c.args.sizes.now.names) (tokens_of c.in-Some.others.now))) c.in-Err-Refused.field-0-is c.in-Err-Refused.ensures in
    type_refused c.args.sizes.now labels c.args.fields.now c.in-Some.base c.in-Some.others.now c.entry_upto-base.result c.in-Err-Refused.reason c.first_of.result c.in-Some.ensures c.entry_upto-base.ensures each (rw c.in-Err-Refused.field-0-is at c.first_of.ensures)
