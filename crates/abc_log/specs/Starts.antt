-- Which script a step started, by what counts as started before it and after (profile: docs/PROGRAM.md, "Logs").
use Rattle.std.specs.Prelude.{◌≡◌, ◌⊎◌, ℕ, suc, Bool, true, false, List, [], ◌∷◌, set, Some, None}
use Rattle.std.specs.declared.option.Option.{Option}

-- the first script, from number n on, that counts as started now and did not before
abbrev pub started_from : ℕ → (before now : List Bool) → Option ℕ
started_from n (false ∷ bs) (true ∷ cs) = Some n
started_from n (false ∷ bs) (false ∷ cs) = started_from (suc n) bs cs
started_from n (true ∷ bs) (c ∷ cs) = started_from (suc n) bs cs
started_from n (b ∷ bs) [] = None
started_from n [] cs = None

-- at most one script more counts as started
abbrev pub IsOneMore : (before now : List Bool) → Type 0
IsOneMore before now = (now ≡ before) ⊎ ((script : ℕ) × (now ≡ set before script true))
