-- Any number of operands of one form.
use Rattle.std.specs.Prelude.{ℕ, List, [], ◌∷◌, ◌++◌, Some, None, Ok, Err, if◌then◌else◌}
use Rattle.std.specs.declared.option.Option.{Option}
use Rattle.std.specs.declared.result.Result.{Result}
use Rattle.abc_text_lines.specs.declared.reason.AsmReason.{AsmReason}
use Rattle.abc_text_lines.specs.declared.reason.AsmReason.TheVariants as reasons
use Rattle.abc_text_lines.specs.Tokens.{Token, Bare, Quoted}
use Rattle.abc_text_lines.specs.Operands.{entry_upto, found_place, index_upto, is_name}
use Rattle.abc_text_tokens.specs.Names.{NameMap, found_name}
use Rattle.abc_text_operands.specs.Joined.{earlier_reason, both_or_reason, map_operand}

-- the values of all tokens, or the first reason of those that they have
abbrev pub each_result : (Token → Result ℕ AsmReason) → List Token → Result (List ℕ) AsmReason
each_result read [] = Ok []
each_result read (token ∷ tokens) = map_operand (λ (x : ℕ × List ℕ). x.0 ∷ x.1) (both_or_reason (read token) (each_result read tokens))

-- an entry of a table that counts from 1
abbrev pub entry_in : ℕ → Token → Result ℕ AsmReason
entry_in size token = (entry_upto size).reads [] token

abbrev pub index_in : ℕ → Token → Result ℕ AsmReason
index_in size token = (index_upto size).reads [] token

-- a label, by the places that were found
abbrev pub label_place : NameMap ℕ → Token → Result ℕ AsmReason
label_place places (Bare word) = if is_name word then found_place (found_name places word) else Err reasons.Kind
label_place places (Quoted bytes) = Err reasons.Kind

-- ---- what was read so far

abbrev pub so_far : Option AsmReason → List ℕ → Result (List ℕ) AsmReason
so_far None items = Ok items
so_far (Some r) items = Err r

abbrev pub onto_operands : Result (List ℕ) AsmReason → Result (List ℕ) AsmReason → Result (List ℕ) AsmReason
onto_operands (Ok xs) (Ok ys) = Ok (xs ++ ys)
onto_operands (Ok xs) (Err s) = Err s
onto_operands (Err r) s = Err (earlier_reason r s)

-- the first of a reason that was noted and one more
abbrev pub sooner : Option AsmReason → AsmReason → AsmReason
sooner None s = s
sooner (Some r) s = earlier_reason {B = List ℕ} r (Err s)

-- the first of the reason that a value has, if it has one, and of another
abbrev pub reason_after : Result ℕ AsmReason → AsmReason → AsmReason
reason_after (Ok x) s = s
reason_after (Err r) s = sooner (Some r) s
