-- What is read of the newest frame and pushed.
use Rattle.std.specs.Prelude.{ℕ, [], ◌∷◌, slice_get}
use Rattle.abc_meaning.specs.At.{Act, goes, after_pushes}
use Rattle.abc_heap_values.specs.declared.values.Value.TheVariants.{Obj}
use Rattle.abc_frames.specs.Frame.{Frame}
use Rattle.abc_meaning.specs.World.{Run, some, ◌>>=◌}

abbrev pub reads_local : ℕ → Frame → Run Act
reads_local n f = some (slice_get f.locals n) >>= λ v. goes (after_pushes (v ∷ []) f)

-- a local scope is counted from the bottom
abbrev pub reads_scope : ℕ → Frame → Run Act
reads_scope n f = some (slice_get f.scopes n) >>= λ e. goes (after_pushes (Obj e.object ∷ []) f)
