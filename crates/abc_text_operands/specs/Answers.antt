-- What is read where memory may run out.
use Rattle.std.specs.Prelude.{◌≡◌, Ok, Err}
use Rattle.std.specs.declared.result.Result.{Result}
use Rattle.abc_text_lines.specs.declared.reason.AsmReason.{AsmReason}
use Rattle.abc_text_operands.specs.declared.error.LineError.{LineError}
use Rattle.abc_text_operands.specs.declared.error.LineError.TheVariants as errors

-- the value or the reason is this; want of memory says nothing
abbrev pub AnswersOperand : {A : Type 0} → Result A LineError → Result A AsmReason → Type 0
AnswersOperand (Ok x) is = is ≡ Ok x
AnswersOperand (Err (errors.Refused reason)) is = is ≡ Err reason
AnswersOperand (Err errors.NoMemory) is = Unit {0}
