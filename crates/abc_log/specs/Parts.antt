-- The next bytes of a source, at most so many.
use Rattle.std.specs.Prelude.{ℕ, List, take}
use Rattle.std.specs.declared.option.Option.{Option}
use Rattle.std.specs.Option.{option_map}

-- the front of what is left, where that is told
abbrev pub front_of : (room : ℕ) → (left : Option (List ℕ)) → Option (List ℕ)
front_of room left = option_map (take room) left
