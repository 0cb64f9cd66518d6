-- Numbers of places, of which those behind the last place that has one are not kept.
use Rattle.std.specs.Prelude.{◌≡◌, ℕ, ◌-◌, ◌++◌, ◌<◌, ◌≤◌, List, length, replicate}

-- numbers, and 0 for the other ones of so many places
abbrev pub with_zeros : ℕ → List ℕ → List ℕ
with_zeros places numbers = numbers ++ replicate (places - length numbers) 0

-- More numbers are kept, up to a place of so many, and none is another.
pub record ReachesPlace (place places : ℕ) (old new : List ℕ) : Type 0 where
  pub far : place < length new
  pub within : length new ≤ places
  pub same : with_zeros places new ≡ with_zeros places old
