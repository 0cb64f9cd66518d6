-- The names of the reasons, as error lines show them (profile: docs/FORMAT.md, "What is refused").
use Rattle.std.specs.Prelude.{ℕ, List, codes}
use Rattle.abc_file_types.specs.declared.reason.Reason.{Reason}
use Rattle.abc_file_types.specs.declared.reason.Reason.TheVariants as reasons

-- the name of a reason
abbrev pub reason_name : Reason → List ℕ
reason_name reasons.Short = codes "Short"
reason_name reasons.Version = codes "Version"
reason_name reasons.LongNumber = codes "LongNumber"
reason_name reasons.BigNumber = codes "BigNumber"
reason_name reasons.NamespaceKind = codes "NamespaceKind"
reason_name reasons.MultinameKind = codes "MultinameKind"
reason_name reasons.Index = codes "Index"
reason_name reasons.OptionCount = codes "OptionCount"
reason_name reasons.OptionKind = codes "OptionKind"
reason_name reasons.TraitKind = codes "TraitKind"
reason_name reasons.Opcode = codes "Opcode"
reason_name reasons.CodeLength = codes "CodeLength"
reason_name reasons.CodeEnds = codes "CodeEnds"
reason_name reasons.Target = codes "Target"
reason_name reasons.HandlerRange = codes "HandlerRange"
reason_name reasons.SecondBody = codes "SecondBody"
reason_name reasons.Trailing = codes "Trailing"
reason_name reasons.FileTooLong = codes "FileTooLong"
