-- What is kept of the ends of lines that strings are.
use Rattle.std.specs.Prelude.{◌≡◌, ◌<◌, ℕ, List, [], get_or, length}
use Rattle.abc_text_lines.specs.Listing.{quoted_comment, string_at}
use Rattle.abc_file_types.specs.declared.tables.Abc.{Abc}

-- what is kept for an index is the end of a line that its string is
pub record AreComments (v : Abc) (rows : List (List ℕ)) : Type 0 where
  pub each : (n : ℕ) → n < length rows → get_or rows n [] ≡ quoted_comment (string_at v n)
