-- Traits of a number and an index, and slots.
use Rattle.std.specs.Prelude.{ℕ, List, [], ◌∷◌, Bool, true, false}
use Rattle.std.specs.declared.result.Result.{Result}
use Rattle.abc_text_lines.specs.declared.reason.AsmReason.{AsmReason}
use Rattle.abc_text_lines.specs.declared.reason.AsmReason.TheVariants as reasons
use Rattle.abc_text_lines.specs.Tokens.{Token}
use Rattle.abc_file_types.specs.declared.tables.Sizes.{Sizes}
use Rattle.abc_file_types.specs.declared.traits.TraitKind.{TraitKind}
use Rattle.abc_file_types.specs.declared.traits.TraitKind.TheVariants as traits
use Rattle.abc_file_types.specs.declared.traits.TraitBody.{TraitBody}
use Rattle.abc_file_types.specs.declared.traits.TraitBody.TheVariants as bodies
use Rattle.abc_text_lines.specs.Lines.{Label}
use Rattle.abc_text_lines.specs.Operands.{map_operands}
use Rattle.abc_text_lines.specs.Kinds.{value_kind_operand}
use Rattle.abc_text_lines.specs.Lineforms as forms
use Rattle.abc_text_operands.specs.Joined.{earlier_reason, line_result}

-- neither a slot nor a constant
abbrev pub is_numbered : TraitKind → Bool
is_numbered traits.Slot = false
is_numbered traits.Const = false
is_numbered _ = true

abbrev pub slot_kind_of : Bool → TraitKind
slot_kind_of true = traits.Const
slot_kind_of false = traits.Slot

-- a trait of a number and an index
abbrev pub numbered_trait : TraitKind → ℕ → ℕ → TraitBody
numbered_trait traits.Getter a b = bodies.Getter a b
numbered_trait traits.Setter a b = bodies.Setter a b
numbered_trait traits.Class a b = bodies.Class a b
numbered_trait traits.Function a b = bodies.Function a b
numbered_trait _ a b = bodies.Method a b

-- the size of the table that the index is of
abbrev pub size_of_table : Sizes → TraitKind → ℕ
size_of_table v traits.Class = v.classes
size_of_table v _ = v.methods

abbrev pub pair_result : ℕ → List Label → List Token → Result (ℕ × ℕ) AsmReason
pair_result size labels tokens = line_result (map_operands (λ x. (x.0, x.1.0)) (λ e. (e.0, (e.1, tt))) (forms.pair_fields size)) labels tokens

-- the first reason of an index and of the kind that follows it
abbrev pub unknown_value : AsmReason → List Label → List Token → AsmReason
unknown_value r labels (token ∷ []) = earlier_reason r (value_kind_operand.reads labels token)
unknown_value r labels _ = reasons.Operands
