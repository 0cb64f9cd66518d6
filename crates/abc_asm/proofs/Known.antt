-- The words of which a line is not refused as Word.
use Rattle.std.proofs.Common.{◌≡◌, ℕ, ◌⊎◌, inl, inr, Some, None, refl, sym, ap, ◌∙◌}
use Rattle.std.specs.declared.option.Option.{Option}
use Rattle.abc_text_lines.specs.declared.reason.AsmReason.TheVariants as reasons
use Rattle.abc_text_lines.specs.declared.word.Word.{Word}
use Rattle.abc_text_lines.specs.declared.word.Word.TheVariants as words
use Rattle.abc_file_types.specs.declared.opcodes.Form.{Form}
use Rattle.abc_file_types.specs.Opcodes.{form_at, form_in, info_at}
use Rattle.abc_file_types.specs.declared.opcodes.OpInfo.{OpInfo}
use Rattle.abc_asm.specs.Whole.{reason_by_form, out_of_order}

abbrev pub IsKnown : Word → Type 0
IsKnown words.Unknown = ⊥
IsKnown (words.Instruction op) = (form : Form) × (form_at op ≡ Some form)
IsKnown _ = Unit {0}

abbrev Decided : Word → Type 0
Decided w = (IsKnown w × (out_of_order w ≡ reasons.Order)) ⊎ ((¬ IsKnown w) × (out_of_order w ≡ reasons.Word))

decided_form : (op : ℕ) (o : Option Form) → form_at op ≡ o → Decided (words.Instruction op)
decided_form op None e = inr (unknown, ap reason_by_form e)
  where
    unknown : ¬ IsKnown (words.Instruction op)
    unknown h = let both : Some h.0 ≡ None = sym h.1 ∙ e in absurd cc
decided_form op (Some form) e = inl ((form, e), ap reason_by_form e)

pub decided : (w : Word) → Decided w
decided words.Unknown = inr ((λ h. h), refl)
decided (words.Instruction op) = decided_form op (form_at op) refl
decided _ = inl (tt, refl)

pub formless : (op : ℕ) → info_at op ≡ None → reason_by_form (form_at op) ≡ reasons.Word
unfolding form_at
formless op e = ap (λ (o : Option OpInfo). reason_by_form (form_in o)) e

pub formed : (op : ℕ) (info : OpInfo) → info_at op ≡ Some info → reason_by_form (form_at op) ≡ reasons.Order
unfolding form_at
formed op info e = ap (λ (o : Option OpInfo). reason_by_form (form_in o)) e
