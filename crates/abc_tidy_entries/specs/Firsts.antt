-- The first of some items that is broken.
use Rattle.std.specs.Prelude.{ℕ, ◌<◌, List, Some, None}
use Rattle.std.specs.declared.option.Option.{Option}
use Rattle.abc_file_types.specs.declared.tables.Abc.{Abc}
use Rattle.abc_tidy_entries.specs.Rules.{IsSomeBroken, IsCyclic}

-- none of the items below a number is broken
abbrev pub HoldBelow : {A : Type 0} → (A → Type 0) → List A → ℕ → Type 0
HoldBelow P xs n = (j : ℕ) → j < n → IsSomeBroken P xs j → ⊥

abbrev pub IsFirstPlace : {A : Type 0} → (A → Type 0) → List A → Option ℕ → Type 0
IsFirstPlace P xs None = (i : ℕ) → IsSomeBroken P xs i → ⊥
IsFirstPlace P xs (Some i) = IsSomeBroken P xs i × HoldBelow P xs i

-- the index of the first name that is cyclic, or none where none is
abbrev pub IsFirstCyclic : Abc → Option ℕ → Type 0
IsFirstCyclic v None = (i : ℕ) → IsCyclic v i → ⊥
IsFirstCyclic v (Some i) = IsCyclic v i × ((j : ℕ) → j < i → IsCyclic v j → ⊥)
