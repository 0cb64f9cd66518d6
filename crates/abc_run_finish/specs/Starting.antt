-- A method that is put over no frame.
use Rattle.std.specs.Prelude.{ℕ, List, [], ◌∷◌, Ok, Err}
use Rattle.std.specs.declared.result.Result.{Result}
use Rattle.abc_heap_values.specs.declared.values.Value.{Value}
use Rattle.abc_heap_store.specs.declared.records.Full.{Full}
use Rattle.abc_frames.specs.Frame.{Frame, Frames, room_for}
use Rattle.abc_frames.specs.declared.records.Size.{Size}
use Rattle.abc_run_state.specs.Stops.{why}
use Rattle.abc_run_state.specs.Turns.{GoesOn, Halts, Turned, size_for}
use Rattle.abc_run_state.specs.declared.state.Stop.{Stop}
use Rattle.abc_meaning.specs.Entering.{frame_for}
use Rattle.abc_meaning.specs.Objects.{Place}
use Rattle.abc_meaning.specs.Setting.{Setting, method_of}
use Rattle.abc_meaning.specs.World.{Fills, Outcome, Run, Stopped, Went, World, some, ◌>>=◌}

-- the only frame
abbrev pub alone_frame : Size → Frame → Frames → Frames
alone_frame size g q = record q { living = g ∷ []; sizes = size ∷ [] }

abbrev pub alone_if : Result Unit Full → Size → World → Frame → Frames → Turned
alone_if (Ok u) size w g q = GoesOn w (alone_frame size g q)
alone_if (Err full) size w g q = Halts w q (Fills full.0)

-- what a new frame makes of frames of which none lives
abbrev pub begins : Setting → Frames → Outcome Frame → Turned
begins p q (Went w g) = alone_if (room_for q (size_for p g)) (size_for p g) w g q
begins p q (Stopped w why) = Halts w q why

-- of code that goes on, or stops with the frames as they were
abbrev pub went_alone : Result Unit Stop → World → Frames → Turned
went_alone (Ok u) w q = GoesOn w q
went_alone (Err e) w q = Halts w q (why e)

-- the frame of a method whose first locals are made: a receiver, and what stands for its parameters; these arguments were given
abbrev pub frames_alone : Setting → (method : ℕ) → Place → (this : Value) → List Value → (given : List Value) → Run Frame
frames_alone p n at this vs given = some (method_of p n) >>= λ m. frame_for p n m this at given vs
