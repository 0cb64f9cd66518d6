-- The version's line.
use Rattle.std.proofs.Common.{◌≡◌, ℕ, inl, inr, Bool, true, false, cond, nat_eq, List, [], ◌∷◌, Ok, Err, Some, None, refl, sym, ap, subst, ◌∙◌, arith}
use Rattle.std.specs.declared.option.Option.{Option}
use Rattle.std.specs.declared.result.Result.{Result}
use Rattle.abc_text_lines.specs.declared.reason.AsmReason.{AsmReason}
use Rattle.abc_text_lines.specs.declared.reason.AsmReason.TheVariants as reasons
use Rattle.abc_text_lines.specs.declared.word.Word.{Word}
use Rattle.abc_text_lines.specs.declared.word.Word.TheVariants as words
use Rattle.abc_text_lines.specs.Reasons.{least}
use Rattle.abc_text_lines.specs.Words.{place_of}
use Rattle.abc_text_lines.proofs.Bools.{split_bool}
use Rattle.abc_file_types.specs.declared.tables.Abc.{Abc}
use Rattle.abc_text_lines.specs.Assembly.{order_fault}
use Rattle.abc_text_lines.specs.Firsts.{value_or_reason}
use Rattle.abc_text_lines.specs.Lines.{Label, Row}
use Rattle.abc_text_lines.specs.Rows.{Fault, Faults, fault, unless}
use Rattle.abc_text_lines.proofs.Many.{eq_true}
use Rattle.abc_text_lines.proofs.Wordlines.{same_word}
use Rattle.abc_text_lines.specs.File.{faults, own}
use Rattle.abc_text_lines.specs.Lineforms.{version_line}
use Rattle.abc_text_tokens.specs.Walks.{tokens_of}
use Rattle.abc_text_tokens.specs.declared.token.Token.{Token}
use Rattle.abc_text_operands.specs.Joined.{line_result, map_operand}
use Rattle.abc_text_operands.specs.Otherlines.{as_version}
use Rattle.abc_text_reader.specs.declared.error.AsmError.{AsmError}
use Rattle.abc_text_reader.specs.declared.error.AsmError.TheVariants as errors
use Rattle.abc_text_reader.specs.declared.reader.Reader.{Reader}
use Rattle.abc_text_reader.specs.declared.reader.Taken.{Taken}
use Rattle.abc_text_reader.specs.Parts.{IsPlainLine}
use Rattle.abc_text_reader.specs.Reading.{IsLineBroken, labels_now, may_repeat, row_of, rows_left, word_next}
use Rattle.abc_text_reader.proofs.Lone.{broken_least, lone_faults}
use Rattle.abc_asm.specs.Whole.{IsMisplaced, ReadsVersion, rows_after_version, out_of_order}
use Rattle.abc_asm.proofs.Known.{decided}
use Rattle.abc_asm.proofs.Misplaced.{broken_placed, known_placed, unknown_placed}

abbrev Next : Type 0
Next = List Row → Result Abc Fault

-- ---- no line, or another

no_rows : (l : List Row) → word_next l ≡ None → l ≡ []
no_rows [] e = refl
no_rows (row ∷ rows) e = absurd cc

pub no_lines : (old new : Reader) → word_next (rows_left old) ≡ None → ReadsVersion old new (Err (errors.Refused 1 reasons.Order))
no_lines old new e next = ap (λ (l : List Row). rows_after_version (faults old.sizes old.instances) l next) (no_rows (rows_left old) e)

record First (l : List Row) (w : Word) : Type 0 where
  row : Row
  rows : List Row
  is : l ≡ row ∷ rows
  word : row.word ≡ w

first_of : (l : List Row) (w : Word) → word_next l ≡ Some w → First l w
first_of [] w e = absurd cc
first_of (row ∷ rows) w e = record { row = row; rows = rows; is = refl; word = cc }

not_first : (w : Word) → ¬ (place_of w ≡ 0) → nat_eq (place_of w) 0 ≡ false
not_first w other =
    elim (split_bool (nat_eq (place_of w) 0)) [
      | inl e ↦ absurd (other (eq_true (place_of w) 0 e))
      | inr e ↦ e
    ]

-- the word of the version's line is the only one in its place
pub first_word : (w : Word) → place_of w ≡ 0 → w ≡ words.Abc
first_word w e = same_word w words.Abc (λ h. absurd (omega arith)) e

pub other_line : (old new : Reader) (w : Word) (d : AsmError) → word_next (rows_left old) ≡ Some w → ¬ (place_of w ≡ 0) → IsMisplaced old d → ReadsVersion old new (Err d)
other_line old new w (errors.Refused line reason) e other placed = λ next.
    let f = first_of (rows_left old) w e in
    let told_ = faults old.sizes old.instances in
    let apart : nat_eq (place_of (f.row).word) 0 ≡ false = not_first (f.row).word (λ h. other (ap place_of (sym f.word) ∙ h)) in
    ap (λ (l : List Row). rows_after_version told_ l next) f.is
    ∙ ap (λ (b : Bool). cond b (unless (least (told_ f.row f.rows)) (f.row).number (next f.rows)) (order_fault told_ f.row f.rows)) apart
    ∙ placed f.row f.rows f.is
other_line old new w errors.NoMemory e other placed = tt

-- ---- the line itself

version_plain : IsPlainLine words.Abc
version_plain = record { no_others = λ v i row after. refl; no_extra = λ v i row after. refl; once = refl; apart = refl }

at_version : (told_ : Faults) (row : Row) (rows : List Row) (next : Next) → row.word ≡ words.Abc → rows_after_version told_ (row ∷ rows) next ≡ unless (least (told_ row rows)) row.number (next rows)
at_version told_ row rows next e = ap (λ (w : Word). cond (nat_eq (place_of w) 0) (unless (least (told_ row rows)) row.number (next rows)) (order_fault told_ row rows)) e

pub broken_version : (old new : Reader) (w : Word) (d : AsmError) → word_next (rows_left old) ≡ Some w → place_of w ≡ 0 → IsLineBroken d (rows_left old) → ReadsVersion old new (Err d)
broken_version old new w (errors.Refused line reason) e at broken = λ next.
    let f = first_of (rows_left old) w e in
    let v = old.sizes in let i = old.instances in
    let row = broken.0 in let after = broken.1 in
    let same : f.row ≡ row = let a = f.is in let b = broken.2 in same_first f.row row f.rows after (sym a ∙ b) in
    let word : row.word ≡ words.Abc = ap (λ (r : Row). r.word) (sym same) ∙ f.word ∙ first_word w at in
    ap (λ (l : List Row). rows_after_version (faults v i) l next) broken.2
    ∙ at_version (faults v i) row after next word
    ∙ ap (λ (o : Option AsmReason). unless o row.number (next after)) (broken_least v i row after broken.3)
    ∙ ap (λ (n : ℕ). wrong n reasons.Text) broken.4
    ∙ ap (wrong line) (sym broken.5)
  where
    same_first : (a b : Row) (xs ys : List Row) → a ∷ xs ≡ b ∷ ys → a ≡ b
    same_first a b xs ys e = cc

    wrong : ℕ → AsmReason → Result Abc Fault
    wrong line reason = Err (fault line reason)
broken_version old new w errors.NoMemory e at broken = tt

told_ok : {A B : Type 0} (f : A → B) (x : A) (o : Option AsmReason) (y : B) → map_operand f (Ok x) ≡ value_or_reason o y → o ≡ None
told_ok f x None y e = refl
told_ok f x (Some r) y e = absurd cc

told_err : {A B : Type 0} (f : A → B) (s : AsmReason) (o : Option AsmReason) (y : B) → map_operand {A = A} f (Err s) ≡ value_or_reason o y → o ≡ Some s
told_err f s None y e = absurd cc
told_err f s (Some r) y e = let same : s ≡ r = cc in ap (λ (t : AsmReason). Some t) (sym same)

-- the line that was taken is of the word that came next
pub taken_is : (old new : Reader) (taken : Taken) (w : Word) → word_next (rows_left old) ≡ Some w → place_of w ≡ 0 → rows_left old ≡ row_of taken new ∷ rows_left new → taken.word ≡ words.Abc
taken_is old new taken w next at opens = (let e : Some taken.word ≡ Some w = sym (ap word_next opens) ∙ next in let same : taken.word ≡ w = cc in same ∙ first_word w at)

module _ (old new : Reader) (taken : Taken) (word : taken.word ≡ words.Abc) (once : may_repeat taken.word ≡ false → taken.repeated ≡ false) (opens : rows_left old ≡ row_of taken new ∷ rows_left new) where
  abbrev head : Row
  head = row_of taken new

  abbrev o : Option AsmReason
  o = least (own old.sizes old.instances words.Abc (labels_now new.body) (tokens_of new.operands.items))

  begins : (next : Next) → rows_after_version (faults old.sizes old.instances) (rows_left old) next ≡ unless o taken.number (next (rows_left new))
  begins next =
      ap (λ (l : List Row). rows_after_version (faults old.sizes old.instances) l next) opens
      ∙ at_version (faults old.sizes old.instances) head (rows_left new) next word
      ∙ ap (λ (l : List AsmReason). unless (least l) taken.number (next (rows_left new))) (lone_faults old.sizes old.instances head (rows_left new) words.Abc version_plain word refl (once (ap may_repeat word)))

  -- what the function of the line says of the operands that the reader found
  moved_to : (r : Result (ℕ × ℕ) AsmReason) (ts : List Token) → ts ≡ new.operands.items → ((labels : List Label) → map_operand as_version r ≡ line_result version_line labels (tokens_of ts)) → map_operand as_version r ≡ line_result version_line (labels_now new.body) (tokens_of new.operands.items)
  moved_to r ts same says = subst (λ (l : List Token). map_operand as_version r ≡ line_result version_line (labels_now new.body) (tokens_of l)) same (says (labels_now new.body))

  pub version_read : (x : ℕ × ℕ) (ts : List Token) → ts ≡ new.operands.items → ((labels : List Label) → map_operand as_version (Ok x) ≡ line_result version_line labels (tokens_of ts)) → ReadsVersion old new (Ok tt)
  version_read x ts same says next = begins next ∙ ap (λ (p : Option AsmReason). unless p taken.number (next (rows_left new))) (told_ok as_version x o (version_line.value (labels_now new.body) (tokens_of new.operands.items)) (moved_to (Ok x) ts same says))

  pub version_bad : (r : AsmReason) (ts : List Token) → ts ≡ new.operands.items → ((labels : List Label) → map_operand as_version (Err r) ≡ line_result version_line labels (tokens_of ts)) → ReadsVersion old new (Err (errors.Refused taken.number r))
  version_bad r ts same says next = begins next ∙ ap (λ (p : Option AsmReason). unless p taken.number (next (rows_left new))) (told_err as_version r o (version_line.value (labels_now new.body) (tokens_of new.operands.items)) (moved_to (Err r) ts same says))

-- ---- a line that may not stand where it does

first_same : (a b : Row) (xs ys : List Row) → a ∷ xs ≡ b ∷ ys → a ≡ b
first_same a b xs ys e = cc

rest_same : (a b : Row) (xs ys : List Row) → a ∷ xs ≡ b ∷ ys → xs ≡ ys
rest_same a b xs ys e = cc

abbrev wrongly : ℕ → AsmReason → Result Abc Fault
wrongly line reason = Err (fault line reason)

pub misplaced_broken : (old : Reader) (d : AsmError) → IsLineBroken d (rows_left old) → IsMisplaced old d
misplaced_broken old (errors.Refused line reason) broken = λ row rows e.
    let same : row ≡ broken.0 = first_same row broken.0 rows broken.1 (sym e ∙ broken.2) in
    let here : row.broken ≡ true = ap (λ (r : Row). r.broken) same ∙ broken.3 in
    let number : row.number ≡ line = ap (λ (r : Row). r.number) same ∙ broken.4 in
    broken_placed old.sizes old.instances row rows here ∙ ap (λ (n : ℕ). wrongly n reasons.Text) number ∙ ap (wrongly line) (sym broken.5)
misplaced_broken old errors.NoMemory broken = tt

module _ (old new : Reader) (taken : Taken) (once : may_repeat taken.word ≡ false → taken.repeated ≡ false) (opens : rows_left old ≡ row_of taken new ∷ rows_left new) where
  abbrev there : Row
  there = row_of taken new

  moved : (row : Row) (rows : List Row) → rows_left old ≡ row ∷ rows → order_fault {A = Abc} (faults old.sizes old.instances) row rows ≡ order_fault (faults old.sizes old.instances) there (rows_left new)
  moved row rows e =
      ap (λ (r : Row). order_fault {A = Abc} (faults old.sizes old.instances) r rows) (first_same row there rows (rows_left new) (sym e ∙ opens))
      ∙ ap (λ (l : List Row). order_fault {A = Abc} (faults old.sizes old.instances) there l) (rest_same row there rows (rows_left new) (sym e ∙ opens))

  -- a whole line
  pub misplaced_whole : IsMisplaced old (errors.Refused taken.number (out_of_order taken.word))
  misplaced_whole row rows e =
      elim (decided taken.word) [
        | inl known ↦ moved row rows e ∙ known_placed old.sizes old.instances there (rows_left new) refl known.0 ∙ ap (wrongly taken.number) (sym known.1)
        | inr unknown ↦ moved row rows e ∙ unknown_placed old.sizes old.instances there (rows_left new) refl once unknown.0 ∙ ap (wrongly taken.number) (sym unknown.1)
      ]
