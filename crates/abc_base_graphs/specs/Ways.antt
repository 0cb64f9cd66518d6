-- The way from a place along links, each of which leads to a lower place: from a layout to its base, from an object to its delegate, from a scope to
-- the one below it (a tool of other definitions).
use Rattle.std.specs.Prelude.{◌≡◌, ℕ, zero, suc, ◌<◌, List, [], ◌∷◌, nat_eq, Some, None, if◌then◌else◌}
use Rattle.std.specs.declared.option.Option.{Option}

-- each link leads to a lower place
pub record IsFalling (next : ℕ → Option ℕ) : Type 0 where
  pub falls : (x y : ℕ) → next x ≡ Some y → y < x

-- a list is the way from a place: it is empty where there is none, else the place, and then the way from where its link leads
abbrev pub IsWay : (ℕ → Option ℕ) → Option ℕ → List ℕ → Type 0
IsWay next at [] = at ≡ None
IsWay next at (x ∷ xs) = (at ≡ Some x) × IsWay next (next x) xs

-- the first n places
abbrev pub places_along : (ℕ → Option ℕ) → ℕ → Option ℕ → List ℕ
places_along next zero at = []
places_along next (suc n) None = []
places_along next (suc n) (Some x) = x ∷ places_along next n (next x)

-- the way itself: from x on there are no more than x + 1 places
unfoldable pub way : (ℕ → Option ℕ) → Option ℕ → List ℕ
way next None = []
way next (Some x) = places_along next (suc x) (Some x)

-- the places of a way before one
abbrev pub before : ℕ → List ℕ → List ℕ
before y [] = []
before y (x ∷ xs) = if nat_eq x y then [] else x ∷ before y xs

-- ---- of walks

-- a place, if there is one, is below a number
abbrev pub IsPlaceBelow : Option ℕ → ℕ → Type 0
IsPlaceBelow None n = Unit {0}
IsPlaceBelow (Some x) n = x < n

-- how far there is to go at most, from a place on
abbrev pub farthest : Option ℕ → ℕ
farthest None = 0
farthest (Some x) = suc x
