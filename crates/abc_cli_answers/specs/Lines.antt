-- The lines that the program writes where its status is not 0 (profile: docs/PROGRAM.md, "Words" and "Statuses").
use Rattle.std.specs.Prelude.{ℕ, List, [], ◌∷◌, ◌++◌, codes, decimal}
use Rattle.abc_base.specs.Escapes.{with_escapes}
use Rattle.abc_file_types.specs.Part.{Refusal, refusal}
use Rattle.abc_file_types.specs.Reasons.{reason_name}
use Rattle.abc_heap_store.specs.declared.records.Limit.{Limit}
use Rattle.abc_log.specs.Lines.{limit_name}
use Rattle.abc_text_lines.specs.Rows.{Fault}
use Rattle.abc_link_names.specs.declared.items.Item.{Item}
use Rattle.abc_link_names.specs.declared.items.LinkRule.{LinkRule}
use Rattle.abc_link_names.specs.Items.{kind_name, link_rule_name}
use Rattle.abc_text_lines.specs.Reasons.{asm_reason_name}
use Rattle.abc_tidy_entries.specs.declared.error.TidyRule.{TidyRule}
use Rattle.abc_tidy_entries.specs.declared.error.TidyRule.TheVariants as tidying
use Rattle.abc_tidy_entries.specs.Rules.{tidy_rule_name}
use Rattle.abc_verify_typing.specs.RuleNames.{rule_name as verify_rule_name}
use Rattle.abc_verify_typing.specs.declared.rule.VerifyRule.{VerifyRule}
use Rattle.abc_verify.specs.declared.verified_error.VerifiedError.{VerifiedError}
use Rattle.abc_verify.specs.declared.verified_error.VerifiedError.TheVariants as errors

-- `abc: `, a text, and a line feed
unfoldable pub told_line : List ℕ → List ℕ
told_line text = codes "abc: " ++ text ++ 10 ∷ []

-- words outside the grammar: the word at which they go wrong
unfoldable pub usage_text : List ℕ → List ℕ
usage_text word = codes "usage: " ++ with_escapes word

-- there are no words
unfoldable pub no_command_text : List ℕ
no_command_text = codes "usage: no command"

-- a place by its kind and number, and what is wrong there
unfoldable pub place_text : List ℕ → ℕ → List ℕ → List ℕ
place_text kind n name = kind ++ codes " " ++ decimal n ++ codes ": " ++ name

-- a refused file: the place and the reason of its first fault
abbrev pub refusal_text : Refusal → List ℕ
refusal_text r = place_text (codes "byte") r.place (reason_name r.reason)

-- a refused text: the line of its fault, and the reason
abbrev pub fault_text : Fault → List ℕ
fault_text f = place_text (codes "line") f.line (asm_reason_name f.reason)

-- a rule of linking, and the item that breaks it
abbrev pub item_text : Item → LinkRule → List ℕ
item_text i rule = place_text (kind_name i.kind) i.index (link_rule_name rule)

-- what kind of thing breaks a rule of tidying
abbrev pub kind_of_tidy : TidyRule → List ℕ
kind_of_tidy tidying.Operand = codes "body"
kind_of_tidy tidying.ParamName = codes "method"
kind_of_tidy tidying.NameCycle = codes "name"
kind_of_tidy tidying.TooLarge = codes "file"

-- a rule of tidying, and where it is broken
abbrev pub tidy_text : TidyRule → ℕ → List ℕ
tidy_text rule i = place_text (kind_of_tidy rule) i (tidy_rule_name rule)

-- what is wrong at an instruction of a method, which stands at this offset in its code as it was read
unfoldable pub code_text : ℕ → ℕ → List ℕ → List ℕ
code_text m offset name = codes "method " ++ decimal m ++ codes " offset " ++ decimal offset ++ codes ": " ++ name

-- a rule of verifying, and the instruction that breaks it
abbrev pub untyped_text : ℕ → ℕ → VerifyRule → List ℕ
untyped_text m offset rule = code_text m offset (verify_rule_name rule)

unfoldable pub read_fault_text : List ℕ
read_fault_text = codes "read fault"

unfoldable pub no_memory_text : List ℕ
no_memory_text = codes "no memory"

-- why an input gives no verified file
abbrev pub unverified_text : VerifiedError → List ℕ
unverified_text (errors.Refused place reason) = refusal_text (refusal place reason)
unverified_text (errors.Link rule i) = item_text i rule
unverified_text (errors.Verify m offset rule) = untyped_text m offset rule
unverified_text errors.ReadFault = read_fault_text
unverified_text errors.NoMemory = no_memory_text

-- the line of a file that is verified: the number of its bodies
unfoldable pub verified_line : ℕ → List ℕ
verified_line n = codes "verified " ++ decimal n ++ 10 ∷ []

-- a file that doesn't export the function that is called
unfoldable pub no_export_text : List ℕ
no_export_text = place_text (codes "file") 0 (codes "NoExport")

unfoldable pub write_fault_text : List ℕ
write_fault_text = codes "write fault"

-- ---- how a run ends

-- nothing caught what was thrown, which has this name
unfoldable pub uncaught_text : List ℕ → List ℕ
uncaught_text name = codes "uncaught " ++ with_escapes name

unfoldable pub fuel_spent_text : List ℕ
fuel_spent_text = codes "fuel spent"

-- a run passed a limit
unfoldable pub limit_text : Limit → List ℕ
limit_text limit = codes "limit " ++ limit_name limit
