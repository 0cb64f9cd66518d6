-- Counting lines by their words, before they are read.
use Rattle.std.specs.Prelude.{ℕ, ◌+◌, Bool, ◌&&◌, ◌||◌, nat_eq, nat_le, List, [], ◌∷◌, if◌then◌else◌}
use Rattle.abc_text_lines.specs.Words.{place_of}
use Rattle.abc_text_lines.specs.Wordlines.{among}
use Rattle.abc_text_lines.specs.Texts.{Raw}

-- how many of the lines stand at this place, up to one that is not of the part
abbrev pub count_raws : List ℕ → ℕ → List Raw → ℕ
count_raws part place [] = 0
count_raws part place (raw ∷ raws) = if nat_eq (place_of raw.word) place then 1 + count_raws part place raws else (if among (place_of raw.word) part then count_raws part place raws else 0)

-- how many of all lines do
abbrev pub count_all_raws : ℕ → List Raw → ℕ
count_all_raws place [] = 0
count_all_raws place (raw ∷ raws) = if nat_eq (place_of raw.word) place then 1 + count_all_raws place raws else count_all_raws place raws

-- the places of tables
abbrev pub is_table : ℕ → Bool
is_table place = (nat_le 1 place && nat_le place 8) || (nat_eq place 12 || (nat_eq place 14 || nat_eq place 20))
