-- The default and the cases.
use Rattle.std.proofs.Common.{◌≡◌, ℕ, List, Ok, Err, sym, subst, ◌∙◌}
use Rattle.std.specs.declared.result.Result.{Result}
use Rattle.abc_text_lines.specs.declared.reason.AsmReason.{AsmReason}
use Rattle.abc_file_types.specs.declared.code.Instr.{Instr}
use Rattle.abc_text_operands.specs.Answers.{AnswersOperand}
use Rattle.abc_text_operands.specs.declared.error.LineError.{LineError}
use Rattle.abc_text_tokens.specs.Walks.{tokens_of}
use Rattle.abc_text_operands.specs.Each.{each_result, label_place}
use Rattle.abc_text_operands.proofs.Coded.{switch_caseless, switch_empty, switch_made, switch_refused, switch_told}
use Rattle.abc_text_operands.proofs.instructions.switch.Goals as goal

pub returns-in_default : goal.returns-in_default
returns-in_default c labels places = switch_empty labels c.args.tokens.now c.in_default.ensures

pub returns-then-is_empty : goal.returns-then-is_empty
returns-then-is_empty c labels places = switch_caseless labels c.args.tokens.now c.in-Some.default c.in-Some.cases.now c.in-Some.ensures (sym c.is_empty.ensures ∙ c.if-is_empty.true)

pub returns-in-Ok : goal.returns-in-Ok
returns-in-Ok c labels places =
    let told = switch_told c.args.places.now labels c.args.tokens.now c.in-Some.default c.in-Some.cases.now c.target-default.result (Ok c.in-Ok.cases) places c.in-Some.ensures (sym c.is_empty.ensures ∙ c.if-is_empty.false) (c.target-default.ensures labels places) c.in-Ok.ensures in
    subst (λ (r : Result Instr AsmReason). AnswersOperand c.with_cases.result r) (sym (told ∙ switch_made c.target-default.result c.in-Ok.cases)) c.with_cases.ensures

pub returns-in-Err-Refused : goal.returns-in-Err-Refused
returns-in-Err-Refused c labels places =
    let each : each_result (label_place c.args.places.now) (tokens_of c.in-Some.cases.now) ≡ Err c.in-Err-Refused.reason =
    subst (λ (x : LineError). AnswersOperand {A = List ℕ} (Err x) (each_result (label_place c.args.places.now) (tokens_of c.in-Some.cases.now))) c.in-Err-Refused.field-0-is c.in-Err-Refused.ensures in
    switch_told c.args.places.now labels c.args.tokens.now c.in-Some.default c.in-Some.cases.now c.target-default.result (Err c.in-Err-Refused.reason) places c.in-Some.ensures (sym c.is_empty.ensures ∙ c.if-is_empty.false) (c.target-default.ensures labels places) each
    ∙ switch_refused c.target-default.result c.in-Err-Refused.reason c.first_of.result (rw c.in-Err-Refused.field-0-is at c.first_of.ensures)
