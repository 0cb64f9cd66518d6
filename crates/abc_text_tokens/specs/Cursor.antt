-- The lines of a text, one after the other.
use Rattle.std.specs.Prelude.{◌≡◌, ℕ, ◌≤◌, ◌<◌, ◌+◌, ◌^◌, ◌||◌, Bool, true, false, List, [], ◌∷◌, length, Some, None}
use Rattle.std.specs.declared.option.Option.{Option}
use Rattle.abc_text_lines.specs.declared.word.Word.{Word}
use Rattle.abc_text_lines.specs.declared.word.Word.TheVariants as words
use Rattle.abc_text_lines.specs.Scanning.{Between, Scan, scan}
use Rattle.abc_text_lines.specs.Tokens.{Token}
use Rattle.abc_text_lines.specs.Texts.{Raw, lines_in, raws_of_scan as raw_of_scan, raws_from, token_word}
use Rattle.abc_text_tokens.specs.declared.line.Line.{Line}

-- the line as the definitions have it
abbrev pub raw_of_line : Line → Raw
raw_of_line line = record {
  number = line.number;
  broken = line.broken || (scan line.tail.now Between).broken;
  word = line.word;
  name = line.name.now;
  operands = (scan line.tail.now Between).tokens;
}

-- the word of a line, by its tokens, and whether it is broken after them
abbrev pub head_of : List Token → Bool → Option Word
head_of [] false = None
head_of [] true = Some words.Unknown
head_of (token ∷ tokens) broken = Some (token_word token)

-- the word of a line, by what a scan of it found; a line without tokens has none, unless it is broken
abbrev pub head_in : Scan → Option Word
head_in s = head_of s.tokens s.broken

-- the lines after it
abbrev pub raws_after : Line → List Raw
raws_after line = raws_from (line.number + 1) (lines_in line.rest.now)

-- how much of a text is left behind the line, with the number of the next line
abbrev pub left_after : Line → ℕ
left_after line = line.number + 1 + length line.rest.now

-- the numbers of all lines that follow are 32 bits wide
abbrev pub AreLinesNumbered : Line → Type 0
AreLinesNumbered line = left_after line ≤ 2 ^ 32

-- the bytes begin with a line, and the others follow it, at any number
abbrev pub Splits : List ℕ → List ℕ → List ℕ → Type 0
Splits text line others = (number : ℕ) → raws_from number (lines_in text) ≡ raw_of_scan number (scan line Between) (raws_from (number + 1) (lines_in others))

-- Of the lines of some bytes, so many, this is the first with tokens, and the others come after it; or there are none. The first line's number is given.
abbrev pub Comes : List Raw → ℕ → ℕ → Option Line → Type 0
Comes raws number count None = raws ≡ []
Comes raws number count (Some line) = (raws ≡ raw_of_line line ∷ raws_after line) × (left_after line ≤ number + count) × (length line.rest.now < count)

-- ---- the next line, if there is one

-- the lines from it on
abbrev pub raws_at : Option Line → List Raw
raws_at None = []
raws_at (Some line) = raw_of_line line ∷ raws_after line

-- how many lines there may be from it on
abbrev pub most_lines : Option Line → ℕ
most_lines None = 0
most_lines (Some line) = 1 + length line.rest.now

-- the numbers of all lines behind the next one, if there is one, are 32 bits wide
abbrev pub AreNumbered : Option Line → Type 0
AreNumbered None = Unit {0}
AreNumbered (Some line) = AreLinesNumbered line
