-- What is read below a body, whether bodies' lines have faults of their own or not.
use Rattle.std.proofs.Common.{◌≡◌, ℕ, zero, suc, inl, inr, Bool, true, false, cond, nat_eq, List, [], ◌∷◌, ◌++◌, Ok, Err, refl, sym, ap, ◌∙◌, arith}
use Rattle.std.specs.declared.result.Result.{Result}
use Rattle.abc_text_lines.specs.declared.reason.AsmReason.{AsmReason}
use Rattle.abc_text_lines.specs.declared.word.Word.{Word}
use Rattle.abc_text_lines.specs.declared.word.Word.TheVariants as words
use Rattle.abc_text_lines.specs.Reasons.{least}
use Rattle.abc_text_lines.specs.Tokens.{Token}
use Rattle.abc_text_lines.specs.Words.{place_of}
use Rattle.abc_text_lines.proofs.Bools.{split_bool}
use Rattle.abc_file_types.specs.declared.code.Instr.{Instr}
use Rattle.abc_file_types.specs.declared.code.Handler.{Handler}
use Rattle.abc_file_types.specs.declared.tables.Sizes.{Sizes}
use Rattle.abc_file_types.specs.declared.traits.TraitInfo.{TraitInfo}
use Rattle.abc_text_lines.specs.Lines.{Label, Row}
use Rattle.abc_text_lines.specs.Operands.{Operands}
use Rattle.abc_text_lines.specs.Rows.{Fault, Faults, Head, code_reads, instruction_first, is_label, empty_rows, pair_reads, unless, ◌>>=◌}
use Rattle.abc_text_lines.specs.Wordlines.{always, closed_to, faults_by_rules, flat_lines, if_none, plain_faults}
use Rattle.abc_text_lines.proofs.Many.{eq_true}
use Rattle.abc_text_lines.specs.File as file
use Rattle.abc_text_lines.specs.File.{extra, faults, instructions, plain_rules, rules}
use Rattle.abc_text_lines.specs.Lineforms as forms
use Rattle.abc_text_operands.specs.declared.traits.TraitHead.{TraitHead}
use Rattle.abc_text_reader.specs.Parts.{item_of, items_read, lone}
use Rattle.abc_asm.specs.Below.{body_below, body_made, trait_of, trait_value, traits_below}
use Rattle.abc_asm.specs.declared.bodies.BodyBelow.{BodyBelow}
use Rattle.abc_asm.proofs.Alike.{Reading, as_other, many_is, pair_is}

pub as_same : {A : Type 0} (r : Reading A) → as_other (λ (x : A). x) r ≡ r
as_same (Ok x) = refl
as_same (Err d) = refl

-- ---- lines of one word

pub flat_is : {A : Type 0} (fs : Faults) (w : Word) (p : Operands A) (n : ℕ) (rows : List Row) → (flat_lines fs w p n).reads rows ≡ items_read w (lone fs (λ labels tokens. p.value labels tokens)) n rows
flat_is {A} fs w p n rows = many_is fs w p always empty_rows (λ (x : A). x) (λ (x : Unit {0}). x) empty_rows.reads (λ (h : A) (b : Unit {0}). h) (λ l. refl) n rows

-- the metadata of a trait, and traits
module _ (v : Sizes) (instances : ℕ) where
  abbrev pub metadata_by : Faults → ℕ → List Row → Reading (List ℕ)
  metadata_by fs n rows = items_read words.TraitMetadata (lone fs (λ labels tokens. (forms.trait_metadata_line v).value labels tokens)) n rows

  abbrev pub traits_by : Faults → ℕ → List Row → Reading (List TraitInfo)
  traits_by fs n rows = items_read words.Trait (item_of fs (trait_value v) (metadata_by fs n) trait_of) n rows

  abbrev trait_head : forms.TraitHead → TraitHead
  trait_head t = record { attrs = t.attrs; name = t.name; body = t.body }

  pub traits_are : (fs : Faults) (n : ℕ) (rows : List Row) → (file.traits v instances fs n).reads rows ≡ traits_by fs n rows
  unfolding file.traits
  traits_are fs n rows =
      many_is fs words.Trait (forms.trait_line v) (file.MetadataAgrees v instances) (closed_to file.skipped_words (flat_lines fs words.TraitMetadata (forms.trait_metadata_line v) n)) trait_head (λ (x : List ℕ). x) (metadata_by fs n) trait_of (λ l. as_same ((flat_lines fs words.TraitMetadata (forms.trait_metadata_line v) n).reads l) ∙ flat_is fs words.TraitMetadata (forms.trait_metadata_line v) n l) n rows

  -- ---- all faults, and the plain ones

  abbrev pub plainly : Faults
  plainly = faults_by_rules (plain_rules v instances)

  no_extra : (w : Word) → nat_eq (place_of w) 22 ≡ false → (row : Row) (after : List Row) → extra v instances row after w ≡ []
  no_extra words.Body other row after = absurd cc
  no_extra _ other row after = refl

  faults_same : (row : Row) (after : List Row) → nat_eq (place_of row.word) 22 ≡ false → plainly row after ≡ faults v instances row after
  faults_same row after other = let plain = plain_faults (rules v instances) row after in ap (λ (l : List AsmReason). plain ++ if_none plain l) (sym (no_extra row.word other row after))

  place_other : (row : Row) (w : Word) → nat_eq (place_of w) 22 ≡ false → nat_eq (place_of row.word) (place_of w) ≡ true → nat_eq (place_of row.word) 22 ≡ false
  place_other row w other here = ap (λ (k : ℕ). nat_eq k 22) (eq_true (place_of row.word) (place_of w) here) ∙ other

  abbrev Same : {A : Type 0} → Word → (Row → List Row → Reading A) → (Row → List Row → Reading A) → Type 0
  Same w f g = (row : Row) (rows : List Row) → nat_eq (place_of row.word) (place_of w) ≡ true → f row rows ≡ g row rows

  abbrev ahead : {A : Type 0} → A → Reading (List A) → Reading (List A)
  ahead x r = r >>= λ xs. Ok (x ∷ xs.0, xs.1)

  abbrev then_items : {A : Type 0} → Word → (Row → List Row → Reading A) → ℕ → Reading A → Reading (List A)
  then_items w f n r = r >>= λ x. ahead x.0 (items_read w f n x.1)

  then_same : {A : Type 0} (w : Word) (f g : Row → List Row → Reading A) (n : ℕ) → ((rows : List Row) → items_read w f n rows ≡ items_read w g n rows) → (r : Reading A) → then_items w f n r ≡ then_items w g n r
  then_same w f g n again (Ok x) = ap (ahead x.0) (again x.1)
  then_same w f g n again (Err d) = refl

  items_same : {A : Type 0} (w : Word) (f g : Row → List Row → Reading A) → Same w f g → (n : ℕ) (rows : List Row) → items_read w f n rows ≡ items_read w g n rows
  items_same w f g same zero rows = refl
  items_same w f g same (suc n) [] = refl
  items_same {A} w f g same (suc n) (row ∷ rows) =
      elim (split_bool (nat_eq (place_of row.word) (place_of w))) [
        | inl e ↦ rw e (ap (then_items w f n) (same row rows e) ∙ then_same w f g n (λ l. items_same w f g same n l) (g row rows))
        | inr e ↦ rw e refl
      ]

  lone_same : {A : Type 0} (w : Word) (value : List Label → List Token → A) → nat_eq (place_of w) 22 ≡ false → Same w (lone plainly value) (lone (faults v instances) value)
  lone_same {A} w value other row rows here =
      let r : Reading A = Ok (value row.labels row.operands, rows) in
      ap (λ (l : List AsmReason). unless (least l) row.number r) (faults_same row rows (place_other row w other here))

  metadata_same : (n : ℕ) (rows : List Row) → metadata_by plainly n rows ≡ metadata_by (faults v instances) n rows
  metadata_same n rows = items_same words.TraitMetadata _ _ (lone_same words.TraitMetadata (λ labels tokens. (forms.trait_metadata_line v).value labels tokens) refl) n rows

  trait_same : (n : ℕ) → Same words.Trait (item_of plainly (trait_value v) (metadata_by plainly n) trait_of) (item_of (faults v instances) (trait_value v) (metadata_by (faults v instances) n) trait_of)
  trait_same n row rows here =
      let made : Reading (List ℕ) → Reading TraitInfo = λ r. r >>= λ y. Ok (trait_of (trait_value v row.labels row.operands) y.0, y.1) in
      ap (λ (l : List AsmReason). unless (least l) row.number (made (metadata_by plainly n rows))) (faults_same row rows (place_other row words.Trait refl here))
      ∙ ap (λ (r : Reading (List ℕ)). unless (least (faults v instances row rows)) row.number (made r)) (metadata_same n rows)

  traits_same : (n : ℕ) (rows : List Row) → traits_by plainly n rows ≡ traits_by (faults v instances) n rows
  traits_same n rows = items_same words.Trait _ _ (trait_same n) n rows

  code_same : (rows : List Row) → code_reads plainly (instructions v instances) rows ≡ code_reads (faults v instances) (instructions v instances) rows
  code_same [] = refl
  code_same (row ∷ rows) =
      let more : Reading (List Instr) → Reading (List Instr) = λ r. instruction_first (is_label row.word) ((instructions v instances).value row) r in
      elim (split_bool (nat_eq (place_of row.word) 23)) [
        | inl e ↦ rw e (
            ap (λ (l : List AsmReason). unless (least l) row.number (more (code_reads plainly (instructions v instances) rows))) (faults_same row rows (ap (λ (k : ℕ). nat_eq k 22) (eq_true (place_of row.word) 23 e)))
            ∙ ap (λ (r : Reading (List Instr)). unless (least (faults v instances row rows)) row.number (more r)) (code_same rows)
            )
        | inr e ↦ rw e refl
      ]

  -- ---- a body

  abbrev handlers_by : Faults → ℕ → List Row → Reading (List Handler)
  handlers_by fs n rows = items_read words.Catch (lone fs (λ labels tokens. (forms.catch_line v).value labels tokens)) n rows

  handlers_same : (n : ℕ) (rows : List Row) → handlers_by plainly n rows ≡ handlers_by (faults v instances) n rows
  handlers_same n rows = items_same words.Catch _ _ (lone_same words.Catch (λ labels tokens. (forms.catch_line v).value labels tokens) refl) n rows

  -- what the definitions read below a body, with all faults or the plain ones
  below_by : (fs : Faults) (n : ℕ) → ((rows : List Row) → code_reads fs (instructions v instances) rows ≡ code_reads (faults v instances) (instructions v instances) rows) → ((rows : List Row) → handlers_by fs n rows ≡ handlers_by (faults v instances) n rows) → ((rows : List Row) → traits_by fs n rows ≡ traits_by (faults v instances) n rows) → (rows : List Row) → as_other body_made ((file.body_below v instances fs n).reads rows) ≡ body_below v instances n rows
  unfolding file.body_below
  below_by fs n code handlers traits rows =
      let two : (l : List Row) → pair_reads (flat_lines fs words.Catch (forms.catch_line v) n).reads (file.traits v instances fs n).reads l ≡ pair_reads (handlers_by (faults v instances) n) (traits_by (faults v instances) n) l = λ l.
      sym (as_same (pair_reads (flat_lines fs words.Catch (forms.catch_line v) n).reads (file.traits v instances fs n).reads l))
      ∙ pair_is (λ (x : List Handler). x) (λ (x : List TraitInfo). x) (file.traits v instances fs n).reads (traits_by (faults v instances) n) (λ m. as_same ((file.traits v instances fs n).reads m) ∙ traits_are fs n m ∙ traits m) (flat_lines fs words.Catch (forms.catch_line v) n).reads (handlers_by (faults v instances) n) (λ m. as_same ((flat_lines fs words.Catch (forms.catch_line v) n).reads m) ∙ flat_is fs words.Catch (forms.catch_line v) n m ∙ handlers m) l in
      let all : pair_reads (code_reads fs (instructions v instances)) (pair_reads (flat_lines fs words.Catch (forms.catch_line v) n).reads (file.traits v instances fs n).reads) rows ≡ pair_reads (code_reads (faults v instances) (instructions v instances)) (pair_reads (handlers_by (faults v instances) n) (traits_by (faults v instances) n)) rows =
      sym (as_same (pair_reads (code_reads fs (instructions v instances)) (pair_reads (flat_lines fs words.Catch (forms.catch_line v) n).reads (file.traits v instances fs n).reads) rows))
      ∙ pair_is (λ (x : List Instr). x) (λ (x : List Handler × List TraitInfo). x) (pair_reads (flat_lines fs words.Catch (forms.catch_line v) n).reads (file.traits v instances fs n).reads) (pair_reads (handlers_by (faults v instances) n) (traits_by (faults v instances) n)) (λ m. as_same (pair_reads (flat_lines fs words.Catch (forms.catch_line v) n).reads (file.traits v instances fs n).reads m) ∙ two m) (code_reads fs (instructions v instances)) (code_reads (faults v instances) (instructions v instances)) (λ m. as_same (code_reads fs (instructions v instances) m) ∙ code m) rows in
      ap (as_other body_made) all

  -- what the definitions read below a body, for the body's own fault and for its value
  pub plain_below : (n : ℕ) (rows : List Row) → as_other body_made ((file.body_below v instances plainly n).reads rows) ≡ body_below v instances n rows
  plain_below n rows = below_by plainly n code_same (handlers_same n) (traits_same n) rows

  pub full_below : (n : ℕ) (rows : List Row) → as_other body_made ((file.body_below v instances (faults v instances) n).reads rows) ≡ body_below v instances n rows
  full_below n rows = below_by (faults v instances) n (λ l. refl) (λ l. refl) (λ l. refl) rows
