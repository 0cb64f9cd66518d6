-- The next byte of an input.
use Rattle.std.specs.Prelude.{◌≡◌, ℕ, List, [], ◌∷◌, Some, None}
use Rattle.std.specs.Io.KnownBytes.{Consumes, IsAtEnd}
use Rattle.std.specs.declared.option.Option.{Option}

abbrev pub list_of_option : Option ℕ → List ℕ
list_of_option None = []
list_of_option (Some b) = b ∷ []

-- the next byte was taken; there is none exactly at the end
pub record GivesNext (old new : Option (List ℕ)) (byte : Option ℕ) : Type 0 where
  pub taken : Consumes old new (list_of_option byte)
  pub end : byte ≡ None → IsAtEnd new
