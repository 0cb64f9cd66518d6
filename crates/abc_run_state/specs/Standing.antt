-- What the code of an instruction may rely on: what a frame names is there.
use Rattle.std.specs.Prelude.{◌≡◌, ℕ, ◌<◌, length}
use Rattle.abc_heap_store.specs.Heap.{Heap}
use Rattle.abc_objects.specs.Growing.{Grows}
use Rattle.abc_objects.specs.Stands.{AreEntries, EachAt, IsScope, StandsOver}
use Rattle.abc_objects.specs.Values.{Exists}
use Rattle.abc_link_names.specs.Linked.{LinkedFile}
use Rattle.abc_frames.specs.Frame.{Frame, newest}
use Rattle.abc_run_state.specs.declared.state.State.{State}

pub record IsStateThere (l : LinkedFile) (h : Heap) (f : Frame) : Type 0 where
  pub stack : EachAt (Exists l h) f.stack
  pub locals : EachAt (Exists l h) f.locals
  pub scopes : AreEntries h f.scopes
  pub saved : IsScope h f.saved
  pub home : f.home < length l.file.scripts

-- the arena stands over the file, and the newest frame is there
pub record IsSet (l : LinkedFile) (s : State) : Type 0 where
  pub over : StandsOver l s.arena
  pub frame : IsStateThere l s.arena (newest s.frames)

-- a part of a step: the arena grew, and nothing else changed
pub record Stays (l : LinkedFile) (old new : State) : Type 0 where
  pub over : StandsOver l new.arena
  pub grows : Grows old.arena new.arena
  pub limits : new.arena.limits ≡ old.arena.limits
  pub frames : new.frames ≡ old.frames
  pub started : new.started ≡ old.started
  pub given : new.given ≡ old.given
