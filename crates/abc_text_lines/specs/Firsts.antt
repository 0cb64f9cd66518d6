-- A value, or the reason that was noted first.
use Rattle.std.specs.Prelude.{Some, None, Ok, Err}
use Rattle.std.specs.declared.option.Option.{Option}
use Rattle.std.specs.declared.result.Result.{Result}
use Rattle.abc_text_lines.specs.declared.reason.AsmReason.{AsmReason}

-- the value, unless a reason was noted
abbrev pub value_or_reason : {A : Type 0} → Option AsmReason → A → Result A AsmReason
value_or_reason None x = Ok x
value_or_reason (Some r) x = Err r
