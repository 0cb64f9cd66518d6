-- The word of the line that comes next.
use Rattle.std.specs.Prelude.{Bool, false, nat_eq, List, [], ◌∷◌}
use Rattle.abc_text_lines.specs.declared.word.Word.{Word}
use Rattle.abc_text_lines.specs.Words.{place_of}
use Rattle.abc_text_lines.specs.Lines.{Row}

-- a line of the word comes next
abbrev pub is_next : Word → List Row → Bool
is_next word [] = false
is_next word (row ∷ rows) = nat_eq (place_of row.word) (place_of word)
