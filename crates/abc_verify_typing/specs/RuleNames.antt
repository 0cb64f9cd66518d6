-- The rules by the names that a refusal shows (profile: docs/VERIFYING.md, "Rules").
use Rattle.std.specs.Prelude.{ℕ, List, codes}
use Rattle.abc_verify_typing.specs.declared.rule.VerifyRule.{VerifyRule}
use Rattle.abc_verify_typing.specs.declared.rule.VerifyRule.TheVariants as rules

-- the name of a rule
abbrev pub rule_name : VerifyRule → List ℕ
rule_name rules.NotRun = codes "NotRun"
rule_name rules.PoolIndex = codes "PoolIndex"
rule_name rules.NameForm = codes "NameForm"
rule_name rules.StackUnder = codes "StackUnder"
rule_name rules.StackOver = codes "StackOver"
rule_name rules.ScopeUnder = codes "ScopeUnder"
rule_name rules.ScopeOver = codes "ScopeOver"
rule_name rules.LocalIndex = codes "LocalIndex"
rule_name rules.OffEnd = codes "OffEnd"
rule_name rules.Merge = codes "Merge"
rule_name rules.NotSpace = codes "NotSpace"
rule_name rules.NotObject = codes "NotObject"
rule_name rules.SlotIndex = codes "SlotIndex"
rule_name rules.ScopeIndex = codes "ScopeIndex"
rule_name rules.NotHere = codes "NotHere"
rule_name rules.NotIndex = codes "NotIndex"
rule_name rules.Parameters = codes "Parameters"
rule_name rules.Flags = codes "Flags"
