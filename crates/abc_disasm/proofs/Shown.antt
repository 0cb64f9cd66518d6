-- What the operands of a line are, as they are shown.
use Rattle.std.proofs.Common.{◌≡◌, ℕ, zero, suc, true, false, List, [], ◌∷◌, ◌++◌, decimal, map, Some, None, refl, ap, ◌∙◌, append-nil}
use Rattle.abc_file_types.specs.declared.names.Multiname.{Multiname}
use Rattle.abc_file_types.specs.declared.names.Multiname.TheVariants as names
use Rattle.abc_file_types.specs.declared.methods.OptionValue.{OptionValue}
use Rattle.abc_file_types.specs.declared.methods.ValueKind.{ValueKind}
use Rattle.abc_file_types.specs.declared.tables.Sizes.{Sizes}
use Rattle.abc_text_lines.specs.Operands.{any_number, entry_upto, index_upto, several_items}
use Rattle.abc_text_lines.specs.Wordlines.{lookup}
use Rattle.abc_text_lines.specs.Writing.{spaced_tokens}
use Rattle.abc_text_lines.specs.Kinds.{multiname_word, multiname_words, value_kind_operand, value_word}
use Rattle.abc_text_lines.specs.Lineforms.{kind_in, multiname_operands, slot_value_operand}
use Rattle.abc_text_lines.specs.Listing.{string_of_name, name_shown, token_of}
use Rattle.abc_disasm.specs.Texts.{operand_bytes}
use Rattle.abc_text_writer.specs.Numbers.{numbers_bytes}

pub entries : (size : ℕ) (xs : List ℕ) → spaced_tokens (map token_of (several_items (entry_upto size) xs)) ≡ numbers_bytes xs
unfolding any_number
entries size [] = refl
entries size (x ∷ xs) = ap (λ (l : List ℕ). 0x20 ∷ (decimal x ++ l)) (entries size xs)

pub types : (size : ℕ) (xs : List ℕ) → spaced_tokens (map token_of (several_items (index_upto size) xs)) ≡ numbers_bytes xs
unfolding any_number
types size [] = refl
types size (x ∷ xs) = ap (λ (l : List ℕ). 0x20 ∷ (decimal x ++ l)) (types size xs)

slot_at : (v : Sizes) (n : ℕ) (kind : ValueKind) → ¬ (n ≡ 0) → operand_bytes ((slot_value_operand v).items (Some (record { kind = kind; value = n }))) ≡ 0x20 ∷ (decimal n ++ (0x20 ∷ (value_word kind ++ [])))
unfolding slot_value_operand any_number value_kind_operand
slot_at v zero kind some = absurd (some refl)
slot_at v (suc n) kind some = refl

slot_at_zero : (v : Sizes) (n : ℕ) (kind : ValueKind) → n ≡ 0 → operand_bytes ((slot_value_operand v).items (Some (record { kind = kind; value = n }))) ≡ 0x20 ∷ (decimal n ++ [])
unfolding slot_value_operand any_number value_kind_operand
slot_at_zero v zero kind none = refl
slot_at_zero v (suc n) kind none = absurd cc

none_at : (v : Sizes) → operand_bytes ((slot_value_operand v).items None) ≡ 0x20 ∷ (decimal 0 ++ [])
unfolding slot_value_operand any_number
none_at v = refl

-- a slot's value with a kind, and without one
pub slot_some : (v : Sizes) (o : OptionValue) → ¬ (o.value ≡ 0) → operand_bytes ((slot_value_operand v).items (Some o)) ≡ 0x20 ∷ (decimal o.value ++ (0x20 ∷ (value_word o.kind ++ [])))
slot_some v o some = slot_at v o.value o.kind some

pub slot_zero : (v : Sizes) (o : OptionValue) → o.value ≡ 0 → operand_bytes ((slot_value_operand v).items (Some o)) ≡ 0x20 ∷ decimal o.value
slot_zero v o none = slot_at_zero v o.value o.kind none ∙ ap (λ (l : List ℕ). 0x20 ∷ l) (append-nil (decimal o.value))

pub slot_none : (v : Sizes) → operand_bytes ((slot_value_operand v).items None) ≡ 0x20 ∷ decimal 0
slot_none v = none_at v ∙ ap (λ (l : List ℕ). 0x20 ∷ l) (append-nil (decimal 0))

-- the string that a multiname's line shows is the multiname's
pub name_line_is : (v : Sizes) (m : Multiname) → name_shown (lookup multiname_words (multiname_word (kind_in m))) ((multiname_operands v (kind_in m)).items m) ≡ string_of_name (Some m)
unfolding any_number
name_line_is v (names.QName true ns name) = refl
name_line_is v (names.QName false ns name) = refl
name_line_is v (names.Rt true name) = refl
name_line_is v (names.Rt false name) = refl
name_line_is v (names.RtL true) = refl
name_line_is v (names.RtL false) = refl
name_line_is v (names.Multi true name set) = refl
name_line_is v (names.Multi false name set) = refl
name_line_is v (names.MultiL true set) = refl
name_line_is v (names.MultiL false set) = refl
name_line_is v (names.TypeName base params) = refl
