-- What a line of a text takes from the lines before it and after it: the labels of its body, and whether it is a repeat.
use Rattle.std.specs.Prelude.{◌≡◌, ◌≢◌, ◌↔◌, ℕ, true, List, [], ◌∷◌, ◌++◌, length}
use Rattle.std.specs.List.{AllByRecursion}
use Rattle.abc_text_lines.specs.declared.word.Word.{Word}
use Rattle.abc_text_lines.specs.declared.word.Word.TheVariants as words
use Rattle.abc_text_lines.specs.Lines.{Label, Row}
use Rattle.abc_text_lines.specs.Texts.{Raw, labels_set, lines_in, method_named, raws_from, rows_of}

-- the lines of a text that have tokens, before they are seen beside each other
abbrev pub raws_of : List ℕ → List Raw
raws_of text = raws_from 1 (lines_in text)

abbrev pub HaveNoBody : List Raw → Type 0
HaveNoBody raws = AllByRecursion (λ raw. raw.word ≢ words.Body) raws

-- One of these lines sets the label, and no body begins after it.
pub record IsSetIn (front : List Raw) (name : List ℕ) : Type 0 where
  pub before : List Raw
  pub line : Raw
  pub since : List Raw
  pub parts : front ≡ before ++ line ∷ since
  pub word : line.word ≡ words.Label
  pub same : line.name ≡ name
  pub one_body : HaveNoBody since

-- One of these lines begins a body of the method with this numeral.
pub record HasBodyIn (front : List Raw) (numeral : List ℕ) : Type 0 where
  pub before : List Raw
  pub line : Raw
  pub since : List Raw
  pub parts : front ≡ before ++ line ∷ since
  pub word : line.word ≡ words.Body
  pub same : method_named line.operands ≡ numeral ∷ []

-- a label line, whose label a line of its body before it sets; or a body's line, with the numeral of an earlier body's line
abbrev pub IsRepeat : Word → List Raw → Raw → Type 0
IsRepeat words.Label front raw = IsSetIn front raw.name
IsRepeat words.Body front raw = (numeral : List ℕ) × (method_named raw.operands ≡ numeral ∷ []) × HasBodyIn front numeral
IsRepeat _ front raw = ⊥

-- A line has the labels that the lines of its body set: after its own line, or after the last body's line before it. Before the first body there are none.
pub record HasLabels (front : List Raw) (raw : Raw) (after : List Raw) (labels : List Label) : Type 0 where
  pub own : raw.word ≡ words.Body → labels ≡ labels_set 0 after
  pub of_body : raw.word ≢ words.Body → (before : List Raw) (body : Raw) (since : List Raw) → front ≡ before ++ body ∷ since → body.word ≡ words.Body → HaveNoBody since → labels ≡ labels_set 0 (since ++ raw ∷ after)
  pub none : raw.word ≢ words.Body → HaveNoBody front → labels ≡ []

-- Among the rows of a text there stands for a line, with these before it and these after it, a row with its number, its word and its tokens.
pub record HasRow (rows : List Row) (front : List Raw) (raw : Raw) (after : List Raw) : Type 0 where
  pub before : List Row
  pub row : Row
  pub behind : List Row
  pub parts : rows ≡ before ++ row ∷ behind
  pub place : length before ≡ length front
  pub number : row.number ≡ raw.number
  pub word : row.word ≡ raw.word
  pub broken : row.broken ≡ raw.broken
  pub operands : row.operands ≡ raw.operands
  pub labels : HasLabels front raw after row.labels
  pub repeated : (row.repeated ≡ true) ↔ IsRepeat raw.word front raw

-- A text has one row for each of its lines with tokens, in their order.
pub record HasRows (text : List ℕ) : Type 0 where
  pub as_many : length (rows_of text) ≡ length (raws_of text)
  pub each : (front : List Raw) (raw : Raw) (after : List Raw) → raws_of text ≡ front ++ raw ∷ after → HasRow (rows_of text) front raw after
