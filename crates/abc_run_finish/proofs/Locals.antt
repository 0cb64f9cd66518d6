-- Room for the first locals of each method, a method at a time.
use Rattle.std.specs.Prelude.{◌≡◌, ℕ, ◌+◌, ◌<◌, ◌≤◌, List, length, Some, slice_get}
use Rattle.abc_file_types.specs.declared.methods.Method.{Method}

-- for so many from the start
pub record IsRoomBelow (methods : List Method) (count limit : ℕ) : Type 0 where
  pub each : (k : ℕ) (m : Method) → k < count → slice_get methods k ≡ Some m → length m.params + 2 ≤ limit
