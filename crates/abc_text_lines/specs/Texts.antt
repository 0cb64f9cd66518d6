-- From the bytes of a text to its lines (profile: docs/ASSEMBLY.md, "Bytes, lines and tokens" and "Code").
use Rattle.std.specs.Prelude.{ℕ, ◌+◌, Bool, true, false, nat_eq, List, [], ◌∷◌, ◌++◌, codes, Some, None, if◌then◌else◌}
use Rattle.std.specs.Str.{bytes_eq}
use Rattle.std.specs.declared.option.Option.{Option}
use Rattle.abc_text_lines.specs.declared.word.Word.{Word}
use Rattle.abc_text_lines.specs.declared.word.Word.TheVariants as words
use Rattle.abc_text_lines.specs.Scanning.{Between, Scan, scan}
use Rattle.abc_text_lines.specs.Tokens.{Token, Bare, Quoted}
use Rattle.abc_file_types.specs.declared.tables.Sizes.{Sizes}
use Rattle.abc_file_types.specs.Opcodes.{names_of_opcodes}
use Rattle.abc_text_lines.specs.Lines.{Label, Row}
use Rattle.abc_text_lines.specs.Operands.{is_name}
use Rattle.abc_text_lines.specs.Wordlines.{count_all, lookup}

-- ---- lines

abbrev pub onto_first : ℕ → List (List ℕ) → List (List ℕ)
onto_first byte [] = (byte ∷ []) ∷ []
onto_first byte (line ∷ lines) = (byte ∷ line) ∷ lines

-- the bytes between line feeds, the first line's and the last line's among them
abbrev pub lines_in : List ℕ → List (List ℕ)
lines_in [] = [] ∷ []
lines_in (byte ∷ bytes) = if nat_eq byte 0x0a then [] ∷ lines_in bytes else onto_first byte (lines_in bytes)

-- ---- words

abbrev pub line_words : List (List ℕ × Word)
line_words =
    (codes "abc", words.Abc) ∷ (codes "int", words.Int) ∷ (codes "uint", words.UInt) ∷ (codes "double", words.Double) ∷ (codes "string", words.Text) ∷
    (codes "ns", words.Namespace) ∷ (codes "set", words.Set) ∷ (codes "name", words.Name) ∷ (codes "method", words.Method) ∷ (codes "param", words.Param) ∷
    (codes "option", words.Optional) ∷ (codes "pname", words.ParamName) ∷ (codes "metadata", words.Metadata) ∷ (codes "item", words.Entry) ∷
    (codes "instance", words.Instance) ∷ (codes "protected", words.Protected) ∷ (codes "implements", words.Implements) ∷ (codes "iinit", words.Initializer) ∷
    (codes "trait", words.Trait) ∷ (codes "tmeta", words.TraitMetadata) ∷ (codes "class", words.Class) ∷ (codes "script", words.Script) ∷ (codes "body", words.Body) ∷
    (codes "catch", words.Catch) ∷ []

-- the instruction of a name
abbrev pub instruction_in : List (ℕ × List ℕ) → List ℕ → Option Word
instruction_in [] name = None
instruction_in (row ∷ rows) name = if bytes_eq row.1 name then Some (words.Instruction row.0) else instruction_in rows name

abbrev pub or_else : {A : Type 0} → Option A → A → A
or_else (Some x) other = x
or_else None other = other

abbrev pub before_colon_more : ℕ → Option (List ℕ) → Option (List ℕ)
before_colon_more byte (Some name) = Some (byte ∷ name)
before_colon_more byte None = None

-- what stands before a colon that ends a word
abbrev pub before_colon : List ℕ → Option (List ℕ)
before_colon [] = None
before_colon (byte ∷ []) = if nat_eq byte 0x3a then Some [] else None
before_colon (byte ∷ other ∷ bytes) = before_colon_more byte (before_colon (other ∷ bytes))

abbrev pub if_name : Option (List ℕ) → Word
if_name (Some name) = if is_name name then words.Label else words.Unknown
if_name None = words.Unknown

-- what a word at the head of a line says that the line is: a line word, the name of an instruction, or a label and a colon
unfoldable pub word_of_text : List ℕ → Word
word_of_text word = or_else (lookup line_words word) (or_else (instruction_in names_of_opcodes word) (if_name (before_colon word)))

abbrev pub token_word : Token → Word
token_word (Bare word) = word_of_text word
token_word (Quoted text) = words.Unknown

abbrev pub token_name : Token → List ℕ
token_name (Bare word) = or_else (before_colon word) []
token_name (Quoted text) = []

-- ---- lines with tokens

-- A line that has tokens: its number, whether it is broken, its word, the name of the label if it sets one, and its other tokens.
pub record Raw : Type 0 where
  pub number : ℕ
  pub broken : Bool
  pub word : Word
  pub name : List ℕ
  pub operands : List Token

abbrev pub raw_in : ℕ → Bool → List Token → List Raw
raw_in number false [] = []
raw_in number true [] = record { number = number; broken = true; word = words.Unknown; name = []; operands = [] } ∷ []
raw_in number broken (token ∷ tokens) = record { number = number; broken = broken; word = token_word token; name = token_name token; operands = tokens } ∷ []

abbrev pub raws_of_scan : ℕ → Scan → List Raw → List Raw
raws_of_scan number s raws = (raw_in number s.broken s.tokens) ++ raws

-- lines without tokens are left out, and counted
abbrev pub raws_from : ℕ → List (List ℕ) → List Raw
raws_from number [] = []
raws_from number (line ∷ lines) = raws_of_scan number (scan line Between) (raws_from (number + 1) lines)

-- ---- what a line asks of the others

pub data Step : Type 0 where
  Ends : Step
  Sets : Step
  Counts : Step
  Skips : Step

-- what a line does to the labels of a body: a body's line ends them, a label line sets one, an instruction is counted
abbrev pub label_step : Word → Step
label_step words.Body = Ends
label_step words.Label = Sets
label_step (words.Instruction op) = Counts
label_step _ = Skips

abbrev pub by_step : {A : Type 0} → Step → A → A → A → A → A
by_step Ends a b c d = a
by_step Sets a b c d = b
by_step Counts a b c d = c
by_step Skips a b c d = d

-- the labels that the lines of a body set, before the next body, each with the number of the next instruction
abbrev pub labels_set : ℕ → List Raw → List Label
labels_set n [] = []
labels_set n (raw ∷ raws) = by_step (label_step raw.word) [] (record { name = raw.name; number = n } ∷ labels_set n raws) (labels_set (n + 1) raws) (labels_set n raws)

-- the name is one of the others
abbrev pub is_text_among : List ℕ → List (List ℕ) → Bool
is_text_among name [] = false
is_text_among name (other ∷ others) = if bytes_eq other name then true else is_text_among name others

-- the method that a body's line names, by its numeral
abbrev pub method_named : List Token → List (List ℕ)
method_named (Bare word ∷ tokens) = word ∷ []
method_named _ = []

abbrev pub is_taken : List (List ℕ) → List (List ℕ) → Bool
is_taken [] taken = false
is_taken (method ∷ others) taken = is_text_among method taken

abbrev pub row_of_raw : Raw → List Label → Bool → Row
row_of_raw raw labels repeated = record { number = raw.number; word = raw.word; broken = raw.broken; operands = raw.operands; labels = labels; repeated = repeated }

-- the lines with the labels of their body, where some labels of the body are set already and some methods have a body
abbrev pub rows_of_lines : List Label → List (List ℕ) → List (List ℕ) → List Raw → List Row
rows_of_lines labels set taken [] = []
rows_of_lines labels set taken (raw ∷ raws) =
    by_step (label_step raw.word)
    (row_of_raw raw (labels_set 0 raws) (is_taken (method_named raw.operands) taken) ∷ rows_of_lines (labels_set 0 raws) [] (method_named raw.operands ++ taken) raws)
    (row_of_raw raw labels (is_text_among raw.name set) ∷ rows_of_lines labels (raw.name ∷ set) taken raws)
    (row_of_raw raw labels false ∷ rows_of_lines labels set taken raws)
    (row_of_raw raw labels false ∷ rows_of_lines labels set taken raws)

-- the lines of a text that have tokens
unfoldable pub rows_of : List ℕ → List Row
rows_of text = rows_of_lines [] [] [] (raws_from 1 (lines_in text))

-- ---- sizes

-- how many entries the tables of a text have, by their lines
abbrev pub sizes_in : List Row → Sizes
sizes_in rows = record {
  ints = count_all 1 rows;
  uints = count_all 2 rows;
  doubles = count_all 3 rows;
  strings = count_all 4 rows;
  namespaces = count_all 5 rows;
  sets = count_all 6 rows;
  names = count_all 7 rows;
  methods = count_all 8 rows;
  metadata = count_all 12 rows;
  classes = count_all 20 rows;
}

-- how many instances a text has, by its lines
abbrev pub instances_in : List Row → ℕ
instances_in rows = count_all 14 rows
