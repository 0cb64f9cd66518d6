-- What a part of a text promises (a tool of other definitions).
use Rattle.std.specs.Prelude.{◌≡◌, ℕ, ◌≤◌, ◌⊎◌, true, false, List, [], ◌∷◌, ◌++◌, length, Some, None, Ok, Err}
use Rattle.std.specs.List.{AllByRecursion}
use Rattle.abc_text_lines.specs.declared.word.Word.{Word}
use Rattle.abc_text_lines.specs.Reasons.{least}
use Rattle.abc_text_lines.specs.Words.{place_of}
use Rattle.abc_text_lines.specs.Lines.{Row, Item, Shown, Line, Labels, line_places, places_shown}
use Rattle.abc_text_lines.specs.Rows.{Fault, Faults, Rows, Head, is_label}

-- when the operands of a line are those of a value's line
abbrev pub Shows : Type 1
Shows = Row → List Item → Type 0

-- the line is this one of a value
pub record IsLine (same : Shows) (row : Row) (w : Word) (items : List Item) : Type 0 where
  pub word : row.word ≡ w
  pub whole : row.broken ≡ false
  pub operands : same row items
  pub once : row.repeated ≡ false

-- a label line, the first of its label in the body
pub record IsLabel (row : Row) : Type 0 where
  pub word : is_label row.word ≡ true
  pub whole : row.broken ≡ false
  pub operands : row.operands ≡ []
  pub once : row.repeated ≡ false

-- The lines of a text are those of a value.
abbrev pub Match : Shows → List Row → List Shown → Type 0
Match operands rows [] = rows ≡ []
Match operands rows (Line w items ∷ shown) = (row : Row) × (others : List Row) × (rows ≡ row ∷ others) × IsLine operands row w items × Match operands others shown
Match operands rows (Labels n ∷ shown) = (labels : List Row) × (others : List Row) × (rows ≡ labels ++ others) × AllByRecursion IsLabel labels × Match operands others shown

-- No reason but Order holds at any of some lines.
abbrev pub Clean : Faults → List Row → List Row → Type 0
Clean faults [] rest = Unit {0}
Clean faults (row ∷ front) rest = (least (faults row (front ++ rest)) ≡ None) × Clean faults front rest

-- the next line has this place
abbrev pub Next : List Row → ℕ → Type 0
Next [] place = ⊥
Next (row ∷ rows) place = place_of row.word ≡ place

abbrev pub Among : ℕ → List ℕ → Type 0
Among place [] = ⊥
Among place (p ∷ ps) = (place ≡ p) ⊎ Among place ps

-- the next line is none of the part's
abbrev pub IsLineFree : {A : Type 0} → Rows A → List Row → Type 0
IsLineFree p rest = (place : ℕ) → Next rest place → Among place p.has → ⊥

-- The lines at the front are those of a value, and the part cannot go on.
pub record Taken {A : Type 0} (given : Type 0) (operands : Shows) (faults : Faults) (p : Rows A) (rows : List Row) (x : A) (rest : List Row) : Type 0 where
  pub front : List Row
  pub parts : rows ≡ front ++ rest
  pub shown : Match operands front (p.shows x)
  pub clean : Clean faults front rest
  pub fits : given → IsLineFree p rest → p.fits x
  -- some value has lines of these words, and none has these and then one of the next word
  pub like : A
  pub alike : places_shown (p.shows like) ≡ line_places front
  pub stops : (y : A) (place : ℕ) (more : List ℕ) → places_shown (p.shows y) ≡ line_places front ++ place ∷ more → Next rest place → ⊥

-- The first line with a fault, up to which the words are those of some value.
pub record Refused {A : Type 0} (faults : Faults) (p : Rows A) (rows : List Row) (f : Fault) : Type 0 where
  pub front : List Row
  pub row : Row
  pub after : List Row
  pub parts : rows ≡ front ++ row ∷ after
  pub clean : Clean faults front (row ∷ after)
  pub reason : least (faults row after) ≡ Some f.reason
  pub line : f.line ≡ row.number
  pub like : A
  pub more : List ℕ
  pub alike : places_shown (p.shows like) ≡ line_places front ++ place_of row.word ∷ more

-- What is promised of at most n lines. `given` is what holds of the whole text where none of its lines has a fault: the values then fit.
pub record Lawful {A : Type 0} (given : Type 0) (operands : Shows) (faults : Faults) (n : ℕ) (p : Rows A) : Type 0 where
  pub taken : (rows : List Row) (x : A) (rest : List Row) → length rows ≤ n → p.reads rows ≡ Ok (x, rest) → Taken given operands faults p rows x rest
  pub refused : (rows : List Row) (f : Fault) → length rows ≤ n → p.reads rows ≡ Err f → Refused faults p rows f
  pub again : (x : A) (front rest : List Row) → length (front ++ rest) ≤ n → p.fits x → Match operands front (p.shows x) → IsLineFree p rest → p.reads (front ++ rest) ≡ Ok (x, rest)
  pub some : A
  pub first : (x : A) (place : ℕ) (more : List ℕ) → places_shown (p.shows x) ≡ place ∷ more → Among place p.starts
  pub begins : (x : A) (front : List Row) (place : ℕ) (more : List ℕ) → Match operands front (p.shows x) → line_places front ≡ place ∷ more → Among place p.starts
  pub inside : (x : A) (before : List ℕ) (place : ℕ) (more : List ℕ) → places_shown (p.shows x) ≡ before ++ place ∷ more → Among place p.has

-- What a line promises.
pub record LineKeeps {H B : Type 0} (given : Type 0) (operands : Shows) (faults : Faults) (head : Head H B) (below : Rows B) : Type 0 where
  pub at : (h : H) → place_of (head.word h) ≡ head.place
  pub found : (row : Row) (after : List Row) → place_of row.word ≡ head.place → is_label row.word ≡ false → least (faults row after) ≡ None → IsLine operands row (head.word (head.value row)) (head.items (head.value row))
  pub fits : given → (row : Row) (front rest : List Row) (y : B) → place_of row.word ≡ head.place → is_label row.word ≡ false → least (faults row (front ++ rest)) ≡ None → Match operands front (below.shows y) → below.fits y → IsLineFree below rest → head.fits (head.value row) y
  pub again : (row : Row) (front rest : List Row) (h : H) (y : B) → head.fits h y → IsLine operands row (head.word h) (head.items h) → Match operands front (below.shows y) → below.fits y → IsLineFree below rest → (least (faults row (front ++ rest)) ≡ None) × (head.value row ≡ h)
