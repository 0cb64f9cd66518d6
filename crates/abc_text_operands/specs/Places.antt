-- The labels of a body, as the code keeps them.
use Rattle.std.specs.Prelude.{◌≡◌, ℕ, List}
use Rattle.abc_text_lines.specs.Lines.{Label}
use Rattle.abc_text_lines.specs.Operands.{place_of_label}
use Rattle.abc_text_tokens.specs.Names.{NameMap, found_name}

-- each name has the place of its label
abbrev pub Places : NameMap ℕ → List Label → Type 0
Places m labels = (name : List ℕ) → found_name m name ≡ place_of_label labels name
