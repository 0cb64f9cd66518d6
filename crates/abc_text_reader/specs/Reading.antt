-- The lines that a reader has still to give, and what it does as it gives one.
use Rattle.std.specs.Prelude.{◌≡◌, ℕ, ◌+◌, ◌≤◌, ◌<◌, ◌^◌, Bool, true, false, nat_eq, List, [], ◌∷◌, ◌++◌, length, drop, Some, None, if◌then◌else◌}
use Rattle.std.specs.declared.option.Option.{Option}
use Rattle.abc_text_lines.specs.declared.reason.AsmReason.TheVariants as reasons
use Rattle.abc_text_lines.specs.declared.word.Word.{Word}
use Rattle.abc_text_lines.specs.declared.word.Word.TheVariants as words
use Rattle.abc_text_lines.specs.Words.{place_of}
use Rattle.abc_text_lines.specs.Lines.{Label, Row}
use Rattle.abc_text_lines.specs.Texts.{Raw, is_taken, labels_set, method_named, row_of_raw, rows_of_lines}
use Rattle.abc_text_tokens.specs.Ahead.{FollowsLine}
use Rattle.abc_text_tokens.specs.Counts.{count_all_raws}
use Rattle.abc_text_operands.specs.Places.{Places}
use Rattle.abc_text_tokens.specs.Cursor.{AreNumbered, most_lines, raws_after, raws_at}
use Rattle.abc_text_tokens.specs.Walks.{tokens_of}
use Rattle.abc_text_tokens.specs.declared.line.Line.{Line}
use Rattle.abc_text_tokens.specs.declared.token.Token.{Token}
use Rattle.abc_text_reader.specs.Names.{Same, names_in_body}
use Rattle.abc_text_reader.specs.declared.error.AsmError.{AsmError}
use Rattle.abc_text_reader.specs.declared.error.AsmError.TheVariants as errors
use Rattle.abc_text_reader.specs.declared.reader.Reader.{Reader}
use Rattle.abc_text_reader.specs.declared.reader.Taken.{Taken}

-- ---- what is left

-- the labels of the body whose line was taken last
abbrev pub labels_now : Option Line → List Label
labels_now None = []
labels_now (Some line) = labels_set 0 (raws_after line)

-- the labels that stood in it so far
abbrev pub set_now : Reader → List (List ℕ)
set_now r = names_in_body r.places r.met r.set

-- the lines that are left
unfoldable pub rows_left : Reader → List Row
rows_left r = rows_of_lines (labels_now r.body) (set_now r) r.bodied (raws_at r.next)

-- the word of the next line, if there is one
abbrev pub word_next : List Row → Option Word
word_next [] = None
word_next (row ∷ rows) = Some row.word

-- the line that was taken, of a reader that took it
abbrev pub row_of : Taken → Reader → Row
row_of taken r = record { number = taken.number; word = taken.word; broken = false; operands = tokens_of r.operands.items; labels = labels_now r.body; repeated = taken.repeated }

-- label lines and bodies' lines can repeat others
abbrev pub may_repeat : Word → Bool
may_repeat words.Label = true
may_repeat words.Body = true
may_repeat _ = false

-- what a reader keeps to from line to line
pub record IsReader (r : Reader) : Type 0 where
  pub places : Places r.places (labels_now r.body)
  pub numbered : AreNumbered r.next
  pub few : most_lines r.next < 2 ^ 32
  pub ahead : FollowsLine r.next (drop r.place r.ahead.items)
  pub instances : r.instances_left ≡ count_all_raws 14 (raws_at r.next)
  pub some_instances : r.instances_left ≤ r.instances
  pub classes : r.classes_left ≡ count_all_raws 20 (raws_at r.next)
  pub some_classes : r.classes_left ≤ r.sizes.classes

-- A reader went on in its text.
pub record Goes (old new : Reader) : Type 0 where
  pub is : IsReader new
  pub sizes : new.sizes ≡ old.sizes
  pub instances : new.instances ≡ old.instances
  pub fewer : length (rows_left new) ≤ length (rows_left old)

-- the next line is broken, and is refused as Text; want of memory says nothing
abbrev pub IsLineBroken : AsmError → List Row → Type 0
IsLineBroken (errors.Refused line reason) rows = (row : Row) × (after : List Row) × (rows ≡ row ∷ after) × (row.broken ≡ true) × (row.number ≡ line) × (reason ≡ reasons.Text)
IsLineBroken errors.NoMemory rows = Unit {0}

-- ---- one line

-- a line with these operands
abbrev pub raw_with : Line → Bool → List Token → Raw
raw_with line broken operands = record { number = line.number; broken = broken; word = line.word; name = line.name.now; operands = tokens_of operands }

abbrev pub one_at : ℕ → Word → ℕ
one_at place word = if nat_eq (place_of word) place then 1 else 0

-- The line comes first of those that were left, and the others are left behind it.
abbrev pub Opens : Reader → Reader → Line → Bool → Type 0
Opens old new line repeated =
    (broken : Bool) → let raw = raw_with line broken old.operands.items in
    rows_of_lines (labels_now old.body) (set_now old) old.bodied (raw ∷ raws_after line) ≡ row_of_raw raw (labels_now new.body) repeated ∷ rows_of_lines (labels_now new.body) (set_now new) new.bodied (raws_after line)

-- what is noted of a line
pub record NotesLine (old new : Reader) (line : Line) (repeated : Bool) : Type 0 where
  pub next : new.next ≡ old.next
  pub ahead : FollowsLine new.next (drop new.place new.ahead.items)
  pub operands : new.operands.items ≡ old.operands.items
  pub sizes : new.sizes ≡ old.sizes
  pub all : new.instances ≡ old.instances
  pub places : Places new.places (labels_now new.body)
  pub opens : Opens old new line repeated
  pub once : may_repeat line.word ≡ false → repeated ≡ false
  pub instances : new.instances_left + one_at 14 line.word ≡ old.instances_left
  pub classes : new.classes_left + one_at 20 line.word ≡ old.classes_left

-- a reader went into the body of a line
pub record Entered (old new : Reader) (line : Line) : Type 0 where
  pub next : new.next ≡ old.next
  pub ahead : FollowsLine new.next (drop new.place new.ahead.items)
  pub operands : new.operands.items ≡ old.operands.items
  pub sizes : new.sizes ≡ old.sizes
  pub all : new.instances ≡ old.instances
  pub instances : new.instances_left ≡ old.instances_left
  pub classes : new.classes_left ≡ old.classes_left
  pub places : Places new.places (labels_now new.body)
  pub body : new.body ≡ Some line
  pub set : set_now new ≡ []
  pub bodied : new.bodied ≡ old.bodied

-- what is noted of a body's line
pub record NotedBody (old new : Reader) (line : Line) (repeated : Bool) : Type 0 where
  pub next : new.next ≡ old.next
  pub ahead : FollowsLine new.next (drop new.place new.ahead.items)
  pub operands : new.operands.items ≡ old.operands.items
  pub sizes : new.sizes ≡ old.sizes
  pub all : new.instances ≡ old.instances
  pub instances : new.instances_left ≡ old.instances_left
  pub classes : new.classes_left ≡ old.classes_left
  pub places : Places new.places (labels_now new.body)
  pub body : new.body ≡ Some line
  pub set : set_now new ≡ []
  pub repeats : repeated ≡ is_taken (method_named (tokens_of old.operands.items)) old.bodied
  pub bodied : Same new.bodied (method_named (tokens_of old.operands.items) ++ old.bodied)
