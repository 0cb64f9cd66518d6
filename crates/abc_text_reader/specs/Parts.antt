-- What is read of a text, line by line.
use Rattle.std.specs.Prelude.{◌≡◌, ℕ, zero, suc, ◌+◌, ◌-◌, ◌≤◌, false, nat_eq, List, [], ◌∷◌, ◌++◌, length, Ok, Err, if◌then◌else◌}
use Rattle.std.specs.declared.result.Result.{Result}
use Rattle.abc_text_lines.specs.declared.reason.AsmReason.{AsmReason}
use Rattle.abc_text_lines.specs.declared.word.Word.{Word}
use Rattle.abc_text_lines.specs.Reasons.{least}
use Rattle.abc_text_lines.specs.Tokens.{Token}
use Rattle.abc_text_lines.specs.Words.{place_of}
use Rattle.abc_file_types.specs.declared.tables.Sizes.{Sizes}
use Rattle.abc_text_lines.specs.Firsts.{value_or_reason}
use Rattle.abc_text_lines.specs.Lines.{Label, Row}
use Rattle.abc_text_lines.specs.Rows.{Fault, Faults, fault, pair_reads, unless, ◌>>=◌}
use Rattle.abc_text_lines.specs.File.{extra, faults, others, own}
use Rattle.abc_text_operands.specs.declared.error.LineError.{LineError}
use Rattle.abc_text_tokens.specs.Walks.{tokens_of}
use Rattle.abc_text_operands.specs.declared.error.LineError.TheVariants as lines
use Rattle.abc_text_reader.specs.declared.error.AsmError.{AsmError}
use Rattle.abc_text_reader.specs.declared.error.AsmError.TheVariants as errors
use Rattle.abc_text_reader.specs.declared.reader.Reader.{Reader}
use Rattle.abc_text_reader.specs.declared.reader.Taken.{Taken}
use Rattle.abc_text_reader.specs.Reading.{Goes, labels_now, may_repeat, row_of, rows_left}

-- ---- answers

-- a part's value and the lines behind it, or its first fault; want of memory says nothing
abbrev pub GivesPart : {A : Type 0} → List Row → Result A AsmError → Result (A × List Row) Fault → Type 0
GivesPart left (Ok x) part = part ≡ Ok (x, left)
GivesPart left (Err (errors.Refused line reason)) part = part ≡ Err (fault line reason)
GivesPart left (Err errors.NoMemory) part = Unit {0}

-- A part of a text: by the sizes of its tables, the number of its instances, and a number of at least as many as the lines that are left.
abbrev pub TextPart : Type 0 → Type 0
TextPart A = Sizes → ℕ → ℕ → List Row → Result (A × List Row) Fault

-- a line, and the part below it
abbrev pub BlockItem : Type 0 → Type 0
BlockItem A = Sizes → ℕ → ℕ → Row → List Row → Result (A × List Row) Fault

-- the reader read a part
abbrev pub ReadsTextPart : {A : Type 0} → TextPart A → Reader → Reader → Result A AsmError → Type 0
ReadsTextPart part old new result = (n : ℕ) → length (rows_left old) ≤ n → GivesPart (rows_left new) result (part old.sizes old.instances n (rows_left old))

-- the reader read an item
abbrev pub ReadsItem : {A : Type 0} → BlockItem A → Reader → Reader → Result A AsmError → Type 0
ReadsItem item old new result = (n : ℕ) (row : Row) (rows : List Row) → length (rows_left old) ≤ n → rows_left old ≡ row ∷ rows → GivesPart (rows_left new) result (item old.sizes old.instances n row rows)

-- a line of the word comes next
abbrev pub ComesNext : Word → List Row → Type 0
ComesNext word [] = ⊥
ComesNext word (row ∷ rows) = place_of row.word ≡ place_of word

-- ---- lines of one word

-- all lines of a word that come, each with what is read below it; n is at least the number of lines
abbrev pub items_read : {A : Type 0} → Word → (Row → List Row → Result (A × List Row) Fault) → ℕ → List Row → Result (List A × List Row) Fault
items_read word item zero rows = Ok ([], rows)
items_read word item (suc n) [] = Ok ([], [])
items_read word item (suc n) (row ∷ rows) =
    if nat_eq (place_of row.word) (place_of word) then
    (item row rows >>= λ x. items_read word item n x.1 >>= λ xs. Ok (x.0 ∷ xs.0, xs.1))
    else Ok ([], row ∷ rows)

-- all lines of a word that come, each with what is below it
abbrev pub all_items : {A : Type 0} → Word → BlockItem A → TextPart (List A)
all_items word item v instances n rows = items_read word (item v instances n) n rows

-- a line's value, with that of the lines below it
abbrev pub item_of : {H B A : Type 0} → Faults → (List Label → List Token → H) → (List Row → Result (B × List Row) Fault) → (H → B → A) → Row → List Row → Result (A × List Row) Fault
item_of told_faults value below make row rows = unless (least (told_faults row rows)) row.number (below rows >>= λ y. Ok (make (value row.labels row.operands) y.0, y.1))

-- a line and the part below it: `value` is that of the line, and `make` joins it to that of the part
abbrev pub headed_item : {H B A : Type 0} → (Sizes → List Label → List Token → H) → TextPart B → (H → B → A) → BlockItem A
headed_item value below make v instances n = item_of (faults v instances) (value v) (below v instances n) make

-- what a line says whose other faults depend on the lines that follow it: its value, or the first of its faults
abbrev pub head_says : {H : Type 0} → (Sizes → List Label → List Token → H) → Taken → Reader → Result H AsmReason
head_says value taken r = value_or_reason (least (faults r.sizes r.instances (row_of taken r) (rows_left r))) (value r.sizes (labels_now r.body) (tokens_of r.operands.items))

-- one part, and then another
abbrev pub pair_of : {A B : Type 0} → TextPart A → TextPart B → TextPart (A × B)
pair_of p q v instances n = pair_reads (p v instances n) (q v instances n)

-- a part's value, as another
abbrev pub mapped_part : {A B : Type 0} → (A → B) → TextPart A → TextPart B
mapped_part f p v instances n rows = p v instances n rows >>= λ x. Ok (f x.0, x.1)

-- a line's value, with no lines below it
abbrev pub lone : {A : Type 0} → Faults → (List Label → List Token → A) → Row → List Row → Result (A × List Row) Fault
lone told_faults value row rows = unless (least (told_faults row rows)) row.number (Ok (value row.labels row.operands, rows))

abbrev pub lone_item : {A : Type 0} → (Sizes → List Label → List Token → A) → BlockItem A
lone_item value v instances n = lone (faults v instances) (value v)

-- all lines of a word that come, where nothing is below them
abbrev pub lone_items : {A : Type 0} → Word → (Sizes → List Label → List Token → A) → TextPart (List A)
lone_items word value = all_items word (lone_item value)

-- Nothing is asked of a line of the word but its own operands.
pub record IsPlainLine (word : Word) : Type 0 where
  pub no_others : (v : Sizes) (instances : ℕ) (row : Row) (after : List Row) → others v instances row after word ≡ []
  pub no_extra : (v : Sizes) (instances : ℕ) (row : Row) (after : List Row) → extra v instances row after word ≡ []
  pub once : may_repeat word ≡ false
  pub apart : nat_eq (place_of word) 23 ≡ false

-- what a line of the word says: its value, or the first of its operands' faults
abbrev pub line_says : {A : Type 0} → Word → (Sizes → List Label → List Token → A) → Sizes → ℕ → List Label → List Token → Result A AsmReason
line_says word value v instances labels tokens = value_or_reason (least (own v instances word labels tokens)) (value v labels tokens)

-- ---- a line's value, or the error at it

-- what the operands of a line say, with the line's number where they have a fault
abbrev pub valued_at : {A : Type 0} → ℕ → Result A AsmReason → Result A AsmError
valued_at line (Ok x) = Ok x
valued_at line (Err r) = Err (errors.Refused line r)

abbrev pub error_at : ℕ → LineError → AsmError
error_at line (lines.Refused reason) = errors.Refused line reason
error_at line lines.NoMemory = errors.NoMemory

-- what was made of a line, with the line's number where it is refused
abbrev pub made_at : {A : Type 0} → ℕ → Result A LineError → Result A AsmError
made_at line (Ok x) = Ok x
made_at line (Err e) = Err (error_at line e)

-- ---- what was read so far

abbrev pub with_front : {A : Type 0} → List A → Result (List A × List Row) Fault → Result (List A × List Row) Fault
with_front front r = r >>= λ x. Ok (front ++ x.0, x.1)

-- What was read, and what is left, is what is read of all.
pub record Going {A : Type 0} (word : Word) (item : BlockItem A) (xs : List A) (old new : Reader) : Type 0 where
  pub goes : Goes old new
  pub taken : length xs + length (rows_left new) ≤ length (rows_left old)
  pub reads : (n : ℕ) → length (rows_left old) ≤ n → with_front xs (items_read word (item old.sizes old.instances n) (n - length xs) (rows_left new)) ≡ items_read word (item old.sizes old.instances n) n (rows_left old)
