-- Lines of tables, by their first bytes.
use Rattle.std.specs.Prelude.{◌≡◌, ℕ, ◌<◌, Bool, true, ◌&&◌, ◌||◌, nat_eq, List, if◌then◌else◌, Some, None}
use Rattle.std.specs.declared.option.Option.{Option}
use Rattle.abc_text_lines.specs.Scanning.{Between, scan}
use Rattle.abc_text_lines.specs.Words.{place_of}
use Rattle.abc_text_lines.specs.declared.word.Word.{Word}
use Rattle.abc_text_tokens.specs.Cursor.{head_in}
use Rattle.abc_text_tokens.specs.Counts.{is_table}

-- ---- first bytes

-- the word of a table can begin with these bytes
abbrev pub may_begin : ℕ → ℕ → ℕ → Bool
may_begin first second third =
    (nat_eq first 105 && (nat_eq second 110 && (nat_eq third 116 || nat_eq third 115)))
    || ((nat_eq first 115 && ((nat_eq second 116 && nat_eq third 114) || (nat_eq second 101 && nat_eq third 116)))
    || ((nat_eq first 110 && (nat_eq second 115 || (nat_eq second 97 && nat_eq third 109)))
    || ((nat_eq first 100 && (nat_eq second 111 && nat_eq third 117))
    || ((nat_eq first 109 && (nat_eq second 101 && nat_eq third 116))
    || ((nat_eq first 99 && (nat_eq second 108 && nat_eq third 97))
    || (nat_eq first 117 && (nat_eq second 105 && nat_eq third 110)))))))

-- ---- places

-- a line with this word stands at the place
abbrev pub word_at_place : ℕ → Option Word → ℕ
word_at_place k None = 0
word_at_place k (Some word) = if nat_eq (place_of word) k then 1 else 0

abbrev pub of_line : List ℕ → Option Word
of_line line = head_in (scan line Between)

-- whatever the line is, it is not one of a table
abbrev pub IsOfNoTable : List ℕ → Type 0
IsOfNoTable line = (k : ℕ) → is_table k ≡ true → word_at_place k (of_line line) ≡ 0

-- where a line stands, or that it is not one of a table
abbrev pub StandsAt : List ℕ → Option ℕ → Type 0
StandsAt line None = IsOfNoTable line
StandsAt line (Some place) = (place < 26) × ((k : ℕ) → word_at_place k (of_line line) ≡ (if nat_eq place k then 1 else 0))
