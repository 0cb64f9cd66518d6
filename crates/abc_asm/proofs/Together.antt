-- From the parts of a text to its file or its fault.
use Rattle.std.proofs.Common.{◌≡◌, ℕ, Bool, true, false, min, ◌≤◌, ◌<◌, ◌^◌, ◌-◌, List, [], ◌∷◌, length, Ok, Err, Some, None, refl, sym, ap, subst, ◌∙◌, arith}
use Rattle.std.specs.Option.{IsSome, is_some}
use Rattle.std.specs.declared.option.Option.{Option}
use Rattle.std.specs.declared.result.Result.{Result}
use Rattle.abc_text_lines.specs.declared.reason.AsmReason.TheVariants as reasons
use Rattle.abc_text_lines.specs.declared.word.Word.{Word}
use Rattle.abc_file_types.specs.declared.tables.Abc.{Abc}
use Rattle.abc_file_types.specs.declared.tables.Sizes.{Sizes}
use Rattle.abc_tables.specs.Lengths.{file_len}
use Rattle.abc_tables.proofs.CanonicalLength.{file-len}
use Rattle.abc_text_lines.specs.Assembly.{end_or_fault, order_fault}
use Rattle.abc_text_lines.specs.Lines.{Row}
use Rattle.abc_text_lines.specs.Rows.{Fault, Faults, fault, ◌>>=◌}
use Rattle.abc_text_lines.specs.File.{faults}
use Rattle.abc_text_lines.specs.Texts.{instances_in, rows_of, sizes_in}
use Rattle.abc_text_reader.specs.declared.error.AsmError.{AsmError}
use Rattle.abc_text_reader.specs.declared.error.AsmError.TheVariants as errors
use Rattle.abc_text_reader.specs.declared.reader.Reader.{Reader}
use Rattle.abc_text_reader.specs.Parts.{GivesPart, ReadsTextPart}
use Rattle.abc_text_reader.specs.Reading.{Goes, rows_left, word_next}
use Rattle.abc_asm.specs.Whole.{Assembles, IsMisplaced, ReadsVersion, rows_after_version, file_part_read, text_read}
use Rattle.abc_asm.proofs.Answered.{read_fault, read_long, read_short}

abbrev Next : Type 0
Next = List Row → Result Abc Fault

no_rows : (l : List Row) → word_next l ≡ None → l ≡ []
no_rows [] e = refl
no_rows (row ∷ rows) e = absurd cc

-- what the program knows of the next line
pub is_left : (o : Option Word) (b : Bool) → b ≡ is_some o → b ≡ true → IsSome o
is_left o b e is = sym e ∙ is

pub none_is_left : (o : Option Word) (b : Bool) → b ≡ is_some o → b ≡ false → o ≡ None
none_is_left None b e is = refl
none_is_left (Some w) b e is = absurd cc

some_row : (l : List Row) → IsSome (word_next l) → (row : Row) × (rows : List Row) × (l ≡ row ∷ rows)
some_row [] some = absurd cc
some_row (row ∷ rows) some = (row, rows, refl)

module _ (text : List ℕ) (r0 : Reader) (is : rows_left r0 ≡ rows_of text) (sizes : r0.sizes ≡ sizes_in (rows_of text)) (instances : r0.instances ≡ instances_in (rows_of text)) where
  abbrev rs : List Row
  rs = rows_of text

  abbrev s : Sizes
  s = sizes_in rs

  abbrev i : ℕ
  i = instances_in rs

  abbrev told : Faults
  told = faults s i

  abbrev last : Next
  last left = file_part_read s i (length rs) left >>= λ x. end_or_fault told x

  start : (next : Next) → rows_after_version (faults r0.sizes r0.instances) (rows_left r0) next ≡ rows_after_version told rs next
  start next =
      ap (λ (v : Sizes). rows_after_version (faults v r0.instances) (rows_left r0) next) sizes
      ∙ ap (λ (n : ℕ). rows_after_version (faults s n) (rows_left r0) next) instances
      ∙ ap (λ (l : List Row). rows_after_version told l next) is

  pub version_fault : (r1 : Reader) (d : AsmError) → ReadsVersion r0 r1 (Err d) → Assembles text (Err d)
  version_fault r1 (errors.Refused line reason) version = read_fault text (fault line reason) (sym (start last) ∙ version last)
  version_fault r1 errors.NoMemory version = tt

  module _ (r1 : Reader) (version : ReadsVersion r0 r1 (Ok tt)) (goes : Goes r0 r1) where
    at_file : text_read text ≡ last (rows_left r1)
    at_file = sym (start last) ∙ version last

    file_at : (r2 : Reader) (result : Result Abc AsmError) → ReadsTextPart file_part_read r1 r2 result → GivesPart (rows_left r2) result (file_part_read s i (length rs) (rows_left r1))
    file_at r2 result reads =
        let fewer = goes.fewer in
        let all : length (rows_left r0) ≡ length rs = ap (λ (l : List Row). length l) is in
        subst (λ (n : ℕ). GivesPart (rows_left r2) result (file_part_read s n (length rs) (rows_left r1))) (goes.instances ∙ instances)
        (subst (λ (v : Sizes). GivesPart (rows_left r2) result (file_part_read v r1.instances (length rs) (rows_left r1))) (goes.sizes ∙ sizes) (reads (length rs) (omega arith)))

    abbrev then_ended : Result (Abc × List Row) Fault → Result Abc Fault
    then_ended r = r >>= λ x. end_or_fault told x

    pub file_fault : (r2 : Reader) (d : AsmError) → ReadsTextPart file_part_read r1 r2 (Err d) → Assembles text (Err d)
    file_fault r2 (errors.Refused line reason) reads = read_fault text (fault line reason) (at_file ∙ ap then_ended (file_at r2 (Err (errors.Refused line reason)) reads))
    file_fault r2 errors.NoMemory reads = tt

    module _ (r2 : Reader) (abc : Abc) (reads : ReadsTextPart file_part_read r1 r2 (Ok abc)) (goes_on : Goes r1 r2) where
      at_end : text_read text ≡ end_or_fault told (abc, rows_left r2)
      at_end = at_file ∙ ap then_ended (file_at r2 (Ok abc) reads)

      pub more_fault : (d : AsmError) → IsSome (word_next (rows_left r2)) → IsMisplaced r2 d → Assembles text (Err d)
      more_fault (errors.Refused line reason) some placed =
          let p = some_row (rows_left r2) some in
          let here : order_fault {A = Abc} told p.0 p.1 ≡ Err (fault line reason) =
          subst (λ (n : ℕ). order_fault {A = Abc} (faults s n) p.0 p.1 ≡ Err (fault line reason)) (goes_on.instances ∙ goes.instances ∙ instances)
          (subst (λ (v : Sizes). order_fault {A = Abc} (faults v r2.instances) p.0 p.1 ≡ Err (fault line reason)) (goes_on.sizes ∙ goes.sizes ∙ sizes) (placed p.0 p.1 p.2)) in
          read_fault text (fault line reason) (at_end ∙ ap (λ (l : List Row). end_or_fault told (abc, l)) p.2 ∙ here)
      more_fault errors.NoMemory some placed = tt

      whole : word_next (rows_left r2) ≡ None → text_read text ≡ Ok abc
      whole none = at_end ∙ ap (λ (l : List Row). end_or_fault told (abc, l)) (no_rows (rows_left r2) none)

      pub fine : (len : ℕ) → word_next (rows_left r2) ≡ None → len ≡ min (file_len abc) (2 ^ 64 - 1) → len ≤ 2 ^ 24 → Assembles text (Ok abc)
      fine len none is_len le = let bytes = file-len abc in read_short text abc (whole none) (omega arith)

      pub long : (len : ℕ) → word_next (rows_left r2) ≡ None → len ≡ min (file_len abc) (2 ^ 64 - 1) → 2 ^ 24 < len → Assembles text (Err (errors.Refused 1 reasons.FileTooLong))
      long len none is_len lt = let bytes = file-len abc in read_long text abc (whole none) (omega arith)
