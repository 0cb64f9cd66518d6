-- Parts of a text: which lines a value has, and how lines are read (a tool of other definitions).
use Rattle.std.specs.Prelude.{ℕ, zero, suc, ◌+◌, Bool, true, false, nat_eq, List, [], ◌∷◌, ◌++◌, Some, None, Ok, Err, if◌then◌else◌}
use Rattle.std.specs.declared.option.Option.{Option}
use Rattle.std.specs.declared.result.Result.{Result}
use Rattle.abc_text_lines.specs.declared.reason.AsmReason.{AsmReason}
use Rattle.abc_text_lines.specs.declared.word.Word.{Word}
use Rattle.abc_text_lines.specs.declared.word.Word.TheVariants as words
use Rattle.abc_text_lines.specs.Reasons.{least}
use Rattle.abc_text_lines.specs.Words.{place_of}
use Rattle.abc_text_lines.specs.Lines.{Row, Item, Shown, Line, Labels}

-- Why a text is refused: the number of a line, and the reason there.
pub record Fault : Type 0 where
  pub line : ℕ
  pub reason : AsmReason

abbrev pub fault : ℕ → AsmReason → Fault
fault line reason = record { line = line; reason = reason }

infixl 10 ◌>>=◌
abbrev pub ◌>>=◌ : {A B : Type 0} → Result A Fault → (A → Result B Fault) → Result B Fault
(Ok x) >>= f = f x
(Err e) >>= f = Err e

-- the reasons but Order that hold at a line, before the lines that follow it
abbrev pub Faults : Type 0
Faults = Row → List Row → List AsmReason

abbrev pub unless : {A : Type 0} → Option AsmReason → ℕ → Result A Fault → Result A Fault
unless None line r = r
unless (Some reason) line r = Err (fault line reason)

-- A list of lines, in one order, of a value.
pub record Rows (A : Type 0) : Type 1 where
  -- the lines that it has
  pub shows : A → List Shown
  -- the values that have a text
  pub fits : A → Type 0
  -- the places of its lines, and of its first one
  pub has : List ℕ
  pub starts : List ℕ
  -- the value, and the lines that are left; or the first fault
  pub reads : List Row → Result (A × List Row) Fault

-- A line of one word, with a value of its own.
pub record Head (H B : Type 0) : Type 1 where
  pub place : ℕ
  pub word : H → Word
  pub items : H → List Item
  -- what a value and the one of the lines below it must be
  pub fits : H → B → Type 0
  pub value : Row → H

-- no lines
abbrev pub empty_rows : Rows (Unit {0})
empty_rows = record { shows = λ x. []; fits = λ x. Unit {0}; has = []; starts = []; reads = λ rows. Ok (tt, rows) }

abbrev pub pair_reads : {A B : Type 0} → (List Row → Result (A × List Row) Fault) → (List Row → Result (B × List Row) Fault) → List Row → Result ((A × B) × List Row) Fault
pair_reads f g rows = f rows >>= λ x. g x.1 >>= λ y. Ok ((x.0, y.0), y.1)

-- one part, and then another
abbrev pub both_rows : {A B : Type 0} → Rows A → Rows B → Rows (A × B)
both_rows p q = record {
  shows = λ x. p.shows x.0 ++ q.shows x.1;
  fits = λ x. p.fits x.0 × q.fits x.1;
  has = p.has ++ q.has;
  starts = p.starts ++ q.starts;
  reads = pair_reads p.reads q.reads;
}

-- the values of a part, as others, and back
abbrev pub image_rows : {A B : Type 0} → (A → B) → (B → A) → Rows A → Rows B
image_rows f g p = record {
  shows = λ y. p.shows (g y);
  fits = λ y. p.fits (g y);
  has = p.has;
  starts = p.starts;
  reads = λ rows. p.reads rows >>= λ x. Ok (f x.0, x.1);
}

abbrev pub items_shown : {H B : Type 0} → Head H B → Rows B → List (H × B) → List Shown
items_shown head below [] = []
items_shown head below (x ∷ xs) = Line (head.word x.0) (head.items x.0) ∷ (below.shows x.1 ++ items_shown head below xs)

abbrev pub ItemsFit : {H B : Type 0} → Head H B → Rows B → List (H × B) → Type 0
ItemsFit head below [] = Unit {0}
ItemsFit head below (x ∷ xs) = head.fits x.0 x.1 × below.fits x.1 × ItemsFit head below xs

-- the first item before the others
abbrev pub item_first : {H B : Type 0} → H → Result ((B × List (H × B)) × List Row) Fault → Result (List (H × B) × List Row) Fault
item_first h r = r >>= λ x. Ok ((h, x.0.0) ∷ x.0.1, x.1)

abbrev pub items_reads : {H B : Type 0} → Faults → Head H B → Rows B → ℕ → List Row → Result (List (H × B) × List Row) Fault
items_reads faults head below zero rows = Ok ([], rows)
items_reads faults head below (suc n) [] = Ok ([], [])
items_reads faults head below (suc n) (row ∷ rows) =
    if nat_eq (place_of row.word) head.place then
    unless (least (faults row rows)) row.number (item_first (head.value row) (pair_reads below.reads (items_reads faults head below n) rows))
    else Ok ([], row ∷ rows)

-- any number of lines of one word, each with the lines below it; n is at least the number of lines that are left
abbrev pub many : {H B : Type 0} → Faults → Head H B → Rows B → ℕ → Rows (List (H × B))
many faults head below n = record {
  shows = items_shown head below;
  fits = ItemsFit head below;
  has = head.place ∷ below.has;
  starts = head.place ∷ [];
  reads = items_reads faults head below n;
}

abbrev pub option_shown : {H B : Type 0} → Head H B → Rows B → Option (H × B) → List Shown
option_shown head below None = []
option_shown head below (Some x) = Line (head.word x.0) (head.items x.0) ∷ below.shows x.1

abbrev pub OptionFits : {H B : Type 0} → Head H B → Rows B → Option (H × B) → Type 0
OptionFits head below None = Unit {0}
OptionFits head below (Some x) = head.fits x.0 x.1 × below.fits x.1

-- the line's value beside that of the lines below it
abbrev pub with_line_value : {H B : Type 0} → H → Result (B × List Row) Fault → Result (Option (H × B) × List Row) Fault
with_line_value h r = r >>= λ y. Ok (Some (h, y.0), y.1)

abbrev pub option_reads : {H B : Type 0} → Faults → Head H B → Rows B → List Row → Result (Option (H × B) × List Row) Fault
option_reads faults head below [] = Ok (None, [])
option_reads faults head below (row ∷ rows) =
    if nat_eq (place_of row.word) head.place then unless (least (faults row rows)) row.number (with_line_value (head.value row) (below.reads rows)) else Ok (None, row ∷ rows)

-- at most one line of a word, with the lines below it
abbrev pub optional : {H B : Type 0} → Faults → Head H B → Rows B → Rows (Option (H × B))
optional faults head below = record {
  shows = option_shown head below;
  fits = OptionFits head below;
  has = head.place ∷ below.has;
  starts = head.place ∷ [];
  reads = option_reads faults head below;
}

abbrev pub is_label : Word → Bool
is_label words.Label = true
is_label _ = false

-- the instructions from number n on, and the label lines between and after them
abbrev pub code_after : {I : Type 0} → Head I (Unit {0}) → ℕ → List I → List Shown
code_after head n [] = []
code_after head n (i ∷ is) = Line (head.word i) (head.items i) ∷ Labels (n + 1) ∷ code_after head (n + 1) is

abbrev pub AllFit : {I : Type 0} → Head I (Unit {0}) → List I → Type 0
AllFit head [] = Unit {0}
AllFit head (i ∷ is) = head.fits i tt × AllFit head is

-- the first instruction before the others; a label line is none
abbrev pub instruction_first : {I : Type 0} → Bool → I → Result (List I × List Row) Fault → Result (List I × List Row) Fault
instruction_first true i r = r
instruction_first false i r = r >>= λ x. Ok (i ∷ x.0, x.1)

abbrev pub code_reads : {I : Type 0} → Faults → Head I (Unit {0}) → List Row → Result (List I × List Row) Fault
code_reads faults head [] = Ok ([], [])
code_reads faults head (row ∷ rows) =
    if nat_eq (place_of row.word) head.place then unless (least (faults row rows)) row.number (instruction_first (is_label row.word) (head.value row) (code_reads faults head rows)) else Ok ([], row ∷ rows)

-- label lines and instructions, of which the first has the number n
abbrev pub code_rows : {I : Type 0} → Faults → Head I (Unit {0}) → ℕ → Rows (List I)
code_rows faults head n = record {
  shows = λ is. Labels n ∷ code_after head n is;
  fits = AllFit head;
  has = head.place ∷ [];
  starts = head.place ∷ [];
  reads = code_reads faults head;
}
