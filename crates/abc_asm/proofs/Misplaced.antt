-- A line that may not stand where it does.
use Rattle.std.proofs.Common.{◌≡◌, ℕ, ◌^◌, Bool, true, false, cond, ◌&&◌, nat_le, List, [], ◌∷◌, ◌++◌, length, Ok, Err, Some, None, refl, ap, ◌∙◌}
use Rattle.std.specs.declared.option.Option.{Option}
use Rattle.std.specs.declared.result.Result.{Result}
use Rattle.abc_text_lines.specs.declared.reason.AsmReason.{AsmReason}
use Rattle.abc_text_lines.specs.declared.reason.AsmReason.TheVariants as reasons
use Rattle.abc_text_lines.specs.declared.word.Word.{Word}
use Rattle.abc_text_lines.specs.declared.word.Word.TheVariants as words
use Rattle.abc_text_lines.specs.Reasons.{least, lesser, rank_of_reason}
use Rattle.abc_file_types.specs.declared.code.Handler.{Handler}
use Rattle.abc_file_types.specs.declared.code.Instr.{Instr}
use Rattle.abc_file_types.specs.declared.opcodes.Form.{Form}
use Rattle.abc_file_types.specs.declared.tables.Abc.{Abc}
use Rattle.abc_file_types.specs.declared.tables.Sizes.{Sizes}
use Rattle.abc_file_types.specs.declared.traits.TraitInfo.{TraitInfo}
use Rattle.abc_file_types.specs.CodeBytes.{code_len}
use Rattle.abc_file_types.specs.Opcodes.{form_at}
use Rattle.abc_text_lines.specs.Assembly.{order_fault}
use Rattle.abc_text_lines.specs.Lines.{Row}
use Rattle.abc_text_lines.specs.Rows.{Fault, fault}
use Rattle.abc_text_lines.specs.Wordlines.{faults_by_rules, if_none, plain_faults, repeat_reason}
use Rattle.abc_text_lines.specs.File as file
use Rattle.abc_text_lines.specs.File.{count_unless, ends_body, extra, faults, long_code, others, own, rules}
use Rattle.abc_text_lines.specs.Lineforms as forms
use Rattle.abc_text_reader.specs.Reading.{may_repeat}
use Rattle.abc_text_reader.proofs.Lone.{broken_least, no_extra, once_faults, whole_faults}
use Rattle.abc_asm.proofs.Alike.{Reading}
use Rattle.abc_asm.proofs.Known.{IsKnown}
use Rattle.abc_asm.proofs.Late.{all_late, is_late, late_append, own_late}

abbrev option_late : Option AsmReason → Bool
option_late None = true
option_late (Some r) = is_late r

cond_late : (b : Bool) (r s : AsmReason) → is_late r ≡ true → is_late s ≡ true → is_late (cond b r s) ≡ true
cond_late true r s e f = e
cond_late false r s e f = f

lesser_late : (r : AsmReason) (o : Option AsmReason) → is_late r ≡ true → option_late o ≡ true → is_late (lesser r o) ≡ true
lesser_late r None e f = e
lesser_late r (Some s) e f = cond_late (nat_le (rank_of_reason r) (rank_of_reason s)) r s e f

first_true : (a b : Bool) → (a && b) ≡ true → (a ≡ true) × (b ≡ true)
first_true true b e = (refl, e)
first_true false b e = absurd cc

least_late : (l : List AsmReason) → all_late l ≡ true → option_late (least l) ≡ true
unfolding least
least_late [] e = refl
least_late (r ∷ rs) e = let p = first_true (is_late r) (all_late rs) e in lesser_late r (least rs) p.0 (least_late rs p.1)

order_first : (o : Option AsmReason) → option_late o ≡ true → lesser reasons.Order o ≡ reasons.Order
order_first None e = refl
order_first (Some s) e = ap (λ (b : Bool). cond b reasons.Order s) e

-- ---- the faults of a line

count_late : (b : Bool) → all_late (count_unless b) ≡ true
count_late true = refl
count_late false = refl

twice_late : (w : Word) → is_late (repeat_reason w) ≡ true
twice_late words.Label = refl
twice_late _ = refl

again_late : (b : Bool) (w : Word) → all_late (cond b (repeat_reason w ∷ []) []) ≡ true
again_late true w = ap (λ (c : Bool). c && true) (twice_late w)
again_late false w = refl

none_late : (l m : List AsmReason) → all_late m ≡ true → all_late (if_none l m) ≡ true
none_late [] m e = e
none_late (r ∷ rs) m e = refl

module _ (v : Sizes) (i : ℕ) where
  others_late : (w : Word) (row : Row) (after : List Row) → all_late (others v i row after w) ≡ true
  others_late words.Method row after = count_late _
  others_late words.Instance row after = count_late _
  others_late words.Class row after = count_late _
  others_late words.Trait row after = count_late _
  others_late _ row after = refl

  long_late : (r : Reading (List Instr × (List Handler × List TraitInfo))) → all_late (long_code v i r) ≡ true
  long_late (Ok x) = tested (ends_body v i x.1 && nat_le (2 ^ 23) (code_len x.0.0))
    where
      tested : (b : Bool) → all_late (cond b (reasons.CodeTooLong ∷ []) []) ≡ true
      tested true = refl
      tested false = refl
  long_late (Err f) = refl

  extra_late : (w : Word) (row : Row) (after : List Row) → all_late (extra v i row after w) ≡ true
  extra_late words.Body row after = long_late ((file.body_below v i (faults_by_rules (file.plain_rules v i)) (length after)).reads after)
  extra_late _ row after = refl

  faults_late : (row : Row) (after : List Row) → row.broken ≡ false → IsKnown row.word → all_late (faults v i row after) ≡ true
  faults_late row after whole known =
      let plain = plain_faults (rules v i) row after in
      let more = others v i row after row.word ++ cond row.repeated (repeat_reason row.word ∷ []) [] in
      let late : all_late plain ≡ true = ap all_late (whole_faults v i row after whole) ∙ late_append (own v i row.word row.labels row.operands) more (own_late v i row.word known row.labels row.operands) (late_append (others v i row after row.word) _ (others_late row.word row after) (again_late row.repeated row.word)) in
      late_append plain (if_none plain (extra v i row after row.word)) late (none_late plain (extra v i row after row.word) (extra_late row.word row after))

  abbrev wrong : ℕ → AsmReason → Result Abc Fault
  wrong line reason = Err (fault line reason)

  pub known_placed : (row : Row) (after : List Row) → row.broken ≡ false → IsKnown row.word → order_fault {A = Abc} (faults v i) row after ≡ Err (fault row.number reasons.Order)
  known_placed row after whole known = ap (wrong row.number) (order_first (least (faults v i row after)) (least_late (faults v i row after) (faults_late row after whole known)))

  -- a line that is refused as Word has no other fault
  word_alone : (row : Row) (after : List Row) → row.broken ≡ false → row.repeated ≡ false → own v i row.word row.labels row.operands ≡ reasons.Word ∷ [] → others v i row after row.word ≡ [] → extra v i row after row.word ≡ [] → faults v i row after ≡ reasons.Word ∷ []
  word_alone row after whole once is other more =
      no_extra v i row after row.word refl more
      ∙ once_faults v i row after row.word refl whole once
      ∙ ap (λ (l : List AsmReason). own v i row.word row.labels row.operands ++ (l ++ [])) other
      ∙ ap (λ (l : List AsmReason). l ++ []) is

  word_placed : (row : Row) (after : List Row) → faults v i row after ≡ reasons.Word ∷ [] → order_fault {A = Abc} (faults v i) row after ≡ Err (fault row.number reasons.Word)
  unfolding least
  word_placed row after e = ap (λ (l : List AsmReason). wrong row.number (lesser reasons.Order (least l))) e

  no_form : (op : ℕ) → ¬ IsKnown (words.Instruction op) → form_at op ≡ None
  no_form op unknown = none_of (form_at op) (λ form e. unknown (form, e))
    where
      none_of : (o : Option Form) → ((form : Form) → o ≡ Some form → ⊥) → o ≡ None
      none_of None h = refl
      none_of (Some form) h = absurd (h form refl)

  word_own : (w : Word) → ¬ IsKnown w → (row : Row) (after : List Row) → (own v i w row.labels row.operands ≡ reasons.Word ∷ []) × (others v i row after w ≡ []) × (extra v i row after w ≡ []) × (may_repeat w ≡ false)
  unfolding forms.instruction_operands
  word_own words.Unknown unknown row after = (refl, refl, refl, refl)
  word_own (words.Instruction op) unknown row after =
      let e = no_form op unknown in
      (ap (λ (o : Option Form). cond ((forms.operands_by_form op o).counts row.labels row.operands) ((forms.operands_by_form op o).faults row.labels row.operands) (reasons.Operands ∷ [])) e, refl, refl, refl)
  word_own _ unknown row after = absurd (unknown tt)

  pub unknown_placed : (row : Row) (after : List Row) → row.broken ≡ false → (may_repeat row.word ≡ false → row.repeated ≡ false) → ¬ IsKnown row.word → order_fault {A = Abc} (faults v i) row after ≡ Err (fault row.number reasons.Word)
  unknown_placed row after whole once unknown =
      let p = word_own row.word unknown row after in
      word_placed row after (word_alone row after whole (once p.3) p.0 p.1 p.2)

  pub broken_placed : (row : Row) (after : List Row) → row.broken ≡ true → order_fault {A = Abc} (faults v i) row after ≡ Err (fault row.number reasons.Text)
  broken_placed row after e = ap (λ (o : Option AsmReason). wrong row.number (lesser reasons.Order o)) (broken_least v i row after e)
