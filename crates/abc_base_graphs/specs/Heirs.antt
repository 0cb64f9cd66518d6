-- Lists of values under keys, of which each has first what its base has, and then its own (a tool of other definitions).
use Rattle.std.specs.Prelude.{◌≡◌, ℕ, ◌<◌, List, Some, None, length, get_or, reverse}
use Rattle.std.specs.declared.option.Option.{Option}
use Rattle.std.specs.List.{flat_map}
use Rattle.abc_base_graphs.specs.Ways.{way}
use Rattle.abc_base_graphs.specs.Listed.{Listed, empty_list}

-- the list of the number l; past the end it is empty
abbrev pub list_at : {T : Type 0} → List (Listed T) → ℕ → Listed T
list_at lists l = get_or lists l empty_list

-- what stands under a base has of it
abbrev pub list_of_base : {T : Type 0} → List (Listed T) → Option ℕ → Listed T
list_of_base lists None = empty_list
list_of_base lists (Some b) = list_at lists b

-- what the places of a way have of their own, the last place first
abbrev pub heritage : {T : Type 0} → (ℕ → Option ℕ) → (ℕ → List T) → Option ℕ → List T
heritage next own at = flat_map own (reverse (way next at))

-- each list is what its way has
pub record AreHeirs {T : Type 0} (next : ℕ → Option ℕ) (values : ℕ → List T) (keys : ℕ → List ℕ) (lists : List (Listed T)) : Type 0 where
  pub values_of : (l : ℕ) → l < length lists → (list_at lists l).values ≡ heritage next values (Some l)
  pub keys_of : (l : ℕ) → l < length lists → (list_at lists l).keys ≡ heritage next keys (Some l)
