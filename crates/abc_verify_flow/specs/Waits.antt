-- What waits for a walk, before and after a call.
use Rattle.std.specs.Prelude.{◌≡◌, ℕ, suc, ◌<◌, ◌≤◌, List, ◌∷◌, length, ◌⊎◌}
use Rattle.abc_verify_typing.specs.Typing.{In}

-- a place waits now, and all that did before
pub record IsPlaceAdded (place : ℕ) (old new : List ℕ) : Type 0 where
  pub has : In place new
  pub keeps : (i : ℕ) → In i old → In i new
  pub only : (i : ℕ) → In i new → (i ≡ place) ⊎ In i old
  pub most : length new ≤ suc (length old)

-- the lowest place was taken, and waits no longer
pub record IsLowestTaken (place : ℕ) (old new : List ℕ) : Type 0 where
  pub is : old ≡ place ∷ new
  pub lowest : (i : ℕ) → In i new → place < i
