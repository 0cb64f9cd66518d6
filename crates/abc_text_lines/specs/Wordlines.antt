-- The faults of a line by its word, and parts that are lines of one word
-- (a tool of other definitions; profile: docs/ASSEMBLY.md, "Why a text is refused").
use Rattle.std.specs.Prelude.{ℕ, ◌+◌, Bool, true, false, nat_eq, List, [], ◌∷◌, ◌++◌, map, Some, None, if◌then◌else◌}
use Rattle.std.specs.Str.{bytes_eq}
use Rattle.std.specs.declared.option.Option.{Option}
use Rattle.abc_text_lines.specs.declared.reason.AsmReason.{AsmReason}
use Rattle.abc_text_lines.specs.declared.reason.AsmReason.TheVariants as reasons
use Rattle.abc_text_lines.specs.declared.word.Word.{Word}
use Rattle.abc_text_lines.specs.declared.word.Word.TheVariants as words
use Rattle.abc_text_lines.specs.Tokens.{Token}
use Rattle.abc_text_lines.specs.Words.{place_of}
use Rattle.abc_text_lines.specs.Lines.{Label, Row, Item}
use Rattle.abc_text_lines.specs.Operands.{AreTokens, Operands, unseen}
use Rattle.abc_text_lines.specs.Rows.{Faults, Head, Rows, image_rows, many, empty_rows}

abbrev pub shows_operands : Row → List Item → Type 0
shows_operands row items = AreTokens row.labels row.operands items

-- ---- kind words

-- the kind that a word names
abbrev pub lookup : {K : Type 0} → List (List ℕ × K) → List ℕ → Option K
lookup [] word = None
lookup (row ∷ rows) word = if bytes_eq row.0 word then Some row.1 else lookup rows word

-- ---- faults

-- What is asked of the lines of a word: of their operands, of the lines that follow, and of a line of which nothing else is to be told.
pub record Rules : Type 0 where
  pub own : Word → List Label → List Token → List AsmReason
  pub others : Row → List Row → Word → List AsmReason
  pub extra : Row → List Row → List AsmReason

abbrev pub repeat_reason : Word → AsmReason
repeat_reason words.Label = reasons.LabelTwice
repeat_reason _ = reasons.SecondBody

-- the reasons at a line but Order and the extra ones
abbrev pub plain_faults : Rules → Faults
plain_faults rules row after =
    if row.broken then reasons.Text ∷ [] else rules.own row.word row.labels row.operands ++ (rules.others row after row.word ++ (if row.repeated then repeat_reason row.word ∷ [] else []))

abbrev pub if_none : List AsmReason → List AsmReason → List AsmReason
if_none [] more = more
if_none (r ∷ rs) more = []

-- all reasons at a line but Order
abbrev pub faults_by_rules : Rules → Faults
faults_by_rules rules row after = plain_faults rules row after ++ if_none (plain_faults rules row after) (rules.extra row after)

-- ---- counting lines

abbrev pub among : ℕ → List ℕ → Bool
among place [] = false
among place (p ∷ ps) = if nat_eq place p then true else among place ps

-- how many of the lines that follow stand at this place, up to one that is not of the part
abbrev pub count_lines : List ℕ → ℕ → List Row → ℕ
count_lines part place [] = 0
count_lines part place (row ∷ rows) = if nat_eq (place_of row.word) place then 1 + count_lines part place rows else (if among (place_of row.word) part then count_lines part place rows else 0)

-- how many of all lines do
abbrev pub count_all : ℕ → List Row → ℕ
count_all place [] = 0
count_all place (row ∷ rows) = if nat_eq (place_of row.word) place then 1 + count_all place rows else count_all place rows

abbrev pub count_in : ℕ → List ℕ → ℕ
count_in place [] = 0
count_in place (p ∷ ps) = if nat_eq p place then 1 + count_in place ps else count_in place ps

-- ---- parts

-- lines of one word, with operands of their own
abbrev pub lines_of_word : {A B : Type 0} → Word → Operands A → (A → B → Type 0) → Head A B
lines_of_word w p agree = record { place = place_of w; word = λ x. w; items = p.items; fits = λ x y. p.fits x × agree x y; value = λ row. p.value row.labels row.operands }

abbrev pub always : {A B : Type 0} → A → B → Type 0
always x y = Unit {0}

-- any number of lines of one word, with no lines below them
abbrev pub flat_lines : {A : Type 0} → Faults → Word → Operands A → ℕ → Rows (List A)
flat_lines {A} faults w p n = image_rows (map (λ (x : A × Unit {0}). x.0)) (map (λ (x : A). (x, tt))) (many faults (lines_of_word w p always) empty_rows n)

-- a part behind which lines of these places can't come either
abbrev pub closed_to : {A : Type 0} → List ℕ → Rows A → Rows A
closed_to others p = record { shows = p.shows; fits = p.fits; has = p.has ++ others; starts = p.starts; reads = p.reads }

-- instructions, by the operands of each opcode
module _ {I : Type 0} (opcode_of : I → ℕ) (operands : ℕ → Operands I) (default : I) where
  abbrev pub in_word : Word → Operands I
  in_word (words.Instruction op) = operands op
  in_word _ = unseen default

  abbrev pub instruction : Head I (Unit {0})
  instruction = record {
    place = 23;
    word = λ i. words.Instruction (opcode_of i);
    items = λ i. (operands (opcode_of i)).items i;
    fits = λ i y. (operands (opcode_of i)).fits i;
    value = λ row. (in_word row.word).value row.labels row.operands;
  }
