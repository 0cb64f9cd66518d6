-- What a sink had when it was lent still stands before all that it has.
use Rattle.std.specs.Prelude.{◌≡◌, ℕ, List, IsSome, None, Some, length, take}
use Rattle.std.specs.Option.{option_map}
use Rattle.std.specs.declared.option.Option.{Option}

abbrev pub known_length : Option (List ℕ) → ℕ
known_length None = 0
known_length (Some bytes) = length bytes

-- where the bytes before were told, they are told now, and come first
abbrev pub BeginsWith : (before now : Option (List ℕ)) → Type 0
BeginsWith before now = IsSome before → option_map (take (known_length before)) now ≡ before
