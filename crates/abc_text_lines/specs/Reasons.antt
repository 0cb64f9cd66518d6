-- The reasons in their order, and the first of some (profile: docs/ASSEMBLY.md, "Why a text is refused").
use Rattle.std.specs.Prelude.{ℕ, List, [], ◌∷◌, Some, None, codes, nat_le, if◌then◌else◌}
use Rattle.std.specs.declared.option.Option.{Option}
use Rattle.abc_text_lines.specs.declared.reason.AsmReason.{AsmReason}
use Rattle.abc_text_lines.specs.declared.reason.AsmReason.TheVariants as reasons

-- the number of a reason, in the order in which they are tried
abbrev pub rank_of_reason : AsmReason → ℕ
rank_of_reason reasons.Text = 1
rank_of_reason reasons.Word = 2
rank_of_reason reasons.Order = 3
rank_of_reason reasons.Operands = 4
rank_of_reason reasons.Kind = 5
rank_of_reason reasons.Number = 6
rank_of_reason reasons.Range = 7
rank_of_reason reasons.Count = 8
rank_of_reason reasons.Index = 9
rank_of_reason reasons.LabelMissing = 10
rank_of_reason reasons.LabelTwice = 11
rank_of_reason reasons.CodeTooLong = 12
rank_of_reason reasons.SecondBody = 13
rank_of_reason reasons.FileTooLong = 14
rank_of_reason reasons.TextTooLong = 15

-- the name of a reason, as error lines show it
abbrev pub asm_reason_name : AsmReason → List ℕ
asm_reason_name reasons.Text = codes "Text"
asm_reason_name reasons.Word = codes "Word"
asm_reason_name reasons.Order = codes "Order"
asm_reason_name reasons.Operands = codes "Operands"
asm_reason_name reasons.Kind = codes "Kind"
asm_reason_name reasons.Number = codes "Number"
asm_reason_name reasons.Range = codes "Range"
asm_reason_name reasons.Count = codes "Count"
asm_reason_name reasons.Index = codes "Index"
asm_reason_name reasons.LabelMissing = codes "LabelMissing"
asm_reason_name reasons.LabelTwice = codes "LabelTwice"
asm_reason_name reasons.CodeTooLong = codes "CodeTooLong"
asm_reason_name reasons.SecondBody = codes "SecondBody"
asm_reason_name reasons.FileTooLong = codes "FileTooLong"
asm_reason_name reasons.TextTooLong = codes "TextTooLong"

-- the first of two reasons, where there is a second
abbrev pub lesser : AsmReason → Option AsmReason → AsmReason
lesser r None = r
lesser r (Some s) = if nat_le (rank_of_reason r) (rank_of_reason s) then r else s

-- the first of some reasons
unfoldable pub least : List AsmReason → Option AsmReason
least [] = None
least (r ∷ rs) = Some (lesser r (least rs))
