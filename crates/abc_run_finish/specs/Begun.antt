-- The state that a run begins with, as code makes it.
use Rattle.std.specs.Prelude.{◌≡◌, ℕ, ◌+◌, ◌≤◌, List, [], length, slice_get, Some, None}
use Rattle.abc_heap_store.specs.declared.records.Limits.{Limits}
use Rattle.abc_meaning.specs.Meaning.{first_world, too_small}
use Rattle.abc_frames.specs.Frame.{no_frames}
use Rattle.abc_run_state.specs.declared.state.State.{State}
use Rattle.abc_file_types.specs.declared.methods.Method.{Method}
use Rattle.abc_meaning.specs.Setting.{Setting}

-- there is room for the first locals of each method: a receiver, the parameters and an array
pub record HasRoomForLocals (methods : List Method) (limit : ℕ) : Type 0 where
  pub each : (n : ℕ) (m : Method) → slice_get methods n ≡ Some m → length m.params + 2 ≤ limit

-- the first state of the meaning, which no limit is too small for
pub record IsBegun (p : Setting) (limits : Limits) (s : State) : Type 0 where
  pub fits : too_small (first_world p limits).heap ≡ None
  pub heap : s.arena ≡ (first_world p limits).heap
  pub started : s.started ≡ (first_world p limits).started
  pub frames : s.frames ≡ no_frames limits.frames limits.stack
  pub given : s.given.items ≡ []
  pub room : HasRoomForLocals p.linked.file.methods s.given.limit
