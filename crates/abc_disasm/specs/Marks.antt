-- Which numbers of instructions are named.
use Rattle.std.specs.Prelude.{◌≡◌, ℕ, ◌<◌, Bool, false, List, length, get_or}
use Rattle.abc_text_lines.specs.Wordlines.{among}

-- Each mark says whether its number is named.
abbrev pub AreTargetMarks : List Bool → List ℕ → Type 0
AreTargetMarks marks named = (n : ℕ) → n < length marks → get_or marks n false ≡ among n named
