-- The lines of a text as they are written, and the lines of a value as they are meant (profile: docs/ASSEMBLY.md, "Lines").
use Rattle.std.specs.Prelude.{ℕ, ℤ, Bool, List, [], ◌∷◌, map}
use Rattle.abc_text_lines.specs.declared.word.Word.{Word}
use Rattle.abc_text_lines.specs.Tokens.{Token}
use Rattle.abc_text_lines.specs.Words.{place_of}

-- a label of a body, and the number of the instruction that it stands for
pub record Label : Type 0 where
  pub name : List ℕ
  pub number : ℕ

-- A line of a text that has tokens, and what it asks of the other lines.
pub record Row : Type 0 where
  pub number : ℕ
  pub word : Word
  -- a quote isn't closed, or an escape isn't one
  pub broken : Bool
  -- the tokens after the first
  pub operands : List Token
  -- those of the row's body
  pub labels : List Label
  -- a label line whose label a line of the body before it sets, or a body's line whose method an earlier one has
  pub repeated : Bool

-- An operand as it is meant: a number, a signed number, a text, the bytes of a double, a kind word, or the number of an instruction, which a label stands for.
pub data Item : Type 0 where
  Number : ℕ → Item
  Signed : ℤ → Item
  Text : List ℕ → Item
  Eight : List ℕ → Item
  Kind : List ℕ → Item
  Target : ℕ → Item

-- A line of a value: its word and its operands. Before an instruction and after the last one there may be label lines, which stand for the instruction's number.
pub data Shown : Type 0 where
  Line : Word → List Item → Shown
  Labels : ℕ → Shown

abbrev pub line_places : List Row → List ℕ
line_places rows = map (λ row. place_of row.word) rows

abbrev pub places_shown : List Shown → List ℕ
places_shown [] = []
places_shown (Line w items ∷ lines) = place_of w ∷ places_shown lines
places_shown (Labels n ∷ lines) = places_shown lines
