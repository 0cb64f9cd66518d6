-- Where the instructions of bodies began.
use Rattle.std.specs.Prelude.{◌≡◌, ℕ, ◌+◌, List, [], length, get_or, slice_get, Some}
use Rattle.abc_file_types.specs.declared.code.Body.{Body}

-- Each body has a place for each of its instructions, and one for the end.
pub record ArePlaces (bodies : List Body) (places : List (List ℕ)) : Type 0 where
  pub count : length places ≡ length bodies
  pub each : (i : ℕ) (b : Body) → slice_get bodies i ≡ Some b → length (get_or places i []) ≡ length b.code + 1

-- It is what is kept of such places.
pub record KeepPlaces {K : Type 0} (of_places : List (List ℕ) → K) (bodies : List Body) (kept : K) : Type 0 where
  pub places : List (List ℕ)
  pub is : kept ≡ of_places places
  pub each : ArePlaces bodies places
