-- The version as two numbers, the bytes of a double so far, and what flags and attributes are read as.
use Rattle.std.specs.Prelude.{ℕ, List, [], ◌∷◌, ◌++◌, Some, None, Ok, Err}
use Rattle.std.specs.declared.option.Option.{Option}
use Rattle.std.specs.declared.result.Result.{Result}
use Rattle.abc_text_lines.specs.declared.reason.AsmReason.{AsmReason}
use Rattle.abc_text_lines.specs.Tokens.{Token}
use Rattle.abc_file_types.specs.declared.traits.TraitKind.{TraitKind}
use Rattle.abc_text_lines.specs.Operands.{number_below, value_or}
use Rattle.abc_text_lines.specs.Kinds.{trait_kind_operand}

-- the two numbers of a version, as the operands of its line have them
abbrev pub as_version : ℕ × ℕ → ℕ × (ℕ × Unit {0})
as_version x = (x.0, (x.1, tt))

-- bytes before those of the digits that follow, if these are digits
abbrev pub onto_hex : List ℕ → Option (List ℕ) → Option (List ℕ)
onto_hex xs None = None
onto_hex xs (Some ys) = Some (xs ++ ys)

-- the third operand, or 0 where there is none below 256
abbrev pub flags_in : List Token → ℕ
flags_in (a ∷ b ∷ c ∷ tokens) = value_or ((number_below 256).reads [] c) 0
flags_in _ = 0

abbrev pub behind_kind : Result TraitKind AsmReason → ℕ → ℕ
behind_kind (Ok kind) n = n
behind_kind (Err r) n = 0

-- the second operand behind a kind of trait, or 0 where there is none below 16
abbrev pub attrs_in : List Token → ℕ
attrs_in (kind ∷ attrs ∷ tokens) = behind_kind (trait_kind_operand.reads [] kind) (value_or ((number_below 16).reads [] attrs) 0)
attrs_in _ = 0
