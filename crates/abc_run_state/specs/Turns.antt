-- What a step makes of the frames, and that code does the same. A throw goes on with a frame's method, place and locals alone,
-- so where code stops, the operands and scopes of the newest frame don't matter.
use Rattle.std.specs.Prelude.{◌≡◌, ℕ, [], ◌∷◌, Bool, true, false, Option, Some, None, Ok, Err}
use Rattle.std.specs.declared.result.Result.{Result}
use Rattle.abc_heap_values.specs.declared.values.Value.{Value}
use Rattle.abc_heap_values.specs.declared.values.Value.TheVariants.{Undefined}
use Rattle.abc_heap_store.specs.declared.records.Full.{Full}
use Rattle.abc_heap_store.specs.declared.records.What.TheVariants.{Formula}
use Rattle.abc_link_names.specs.Linked.{LinkedFile}
use Rattle.abc_frames.specs.Frame.{Frame, Frames, arguments, newest, no_size, room_for, under}
use Rattle.abc_frames.specs.declared.records.Size.{Size}
use Rattle.abc_frames.specs.declared.records.Wait.TheVariants as waits
use Rattle.abc_verify_typing.specs.Routines.{Routine}
use Rattle.abc_meaning.specs.Calling.{calls_what, trace}
use Rattle.abc_meaning.specs.Setting.{Setting, routine_of}
use Rattle.abc_meaning.specs.World.{Fills, Outcome, Run, Stopped, Went, World, and_then, Stop as Why}
use Rattle.abc_meaning.specs.At.{Above, Act, Goes, Returns, Stays, Top}
use Rattle.abc_run_state.specs.declared.state.How.{How}
use Rattle.abc_run_state.specs.declared.state.Left.{Left}
use Rattle.abc_run_state.specs.declared.state.Left.TheVariants as lefts
use Rattle.abc_run_state.specs.declared.state.State.{State}
use Rattle.abc_run_state.specs.declared.state.Stop.{Stop}
use Rattle.abc_run_state.specs.Outer.{Outer, setting_in, world}
use Rattle.abc_run_state.specs.Settling.{settles_how}
use Rattle.abc_run_state.specs.Stops.{why}

pub data Turned : Type 0 where
  GoesOn : World → Frames → Turned
  Gives : World → Frames → Value → Turned
  Halts : World → Frames → Why → Turned

-- ---- frames

-- what a throw goes on with
abbrev pub bare_frame : Frame → Frame
bare_frame f = record f { stack = []; scopes = []; wait = waits.Not }

abbrev pub bare_newest : Frames → Frames
bare_newest q = record q { living = bare_frame (newest q) ∷ under q.living }

-- a frame in place of the newest, and one above it
abbrev pub on_top : Frame → Frames → Frames
on_top f q = record q { living = f ∷ under q.living }

-- what a routine's frame may keep
abbrev pub size_of_routine : Option Routine → Size
size_of_routine None = no_size
size_of_routine (Some r) = record { locals = r.local_count; stack = r.max_stack; scopes = r.scope_size }

abbrev pub size_for : Setting → Frame → Size
size_for p f = size_of_routine (routine_of p f.method)

abbrev pub with_frame_above : Size → Frame → Frames → Frames
with_frame_above size g q = record q { living = g ∷ q.living; sizes = size ∷ q.sizes }

-- ---- what an act makes of them

abbrev pub entered_if : Result Unit Full → Size → World → (new below : Frame) → Frames → Turned
entered_if (Ok u) size w g f q = GoesOn w (with_frame_above size g (on_top f q))
entered_if (Err full) size w g f q = Halts w (bare_newest q) (Fills full.0)

abbrev pub turned_to : Setting → World → Frames → Top → Turned
turned_to p w q (Stays f) = GoesOn w (on_top f q)
turned_to p w q (Above g f) = entered_if (room_for q (size_for p g)) (size_for p g) w g f q

abbrev pub turn_of_act : Setting → World → Frames → Act → Turned
turn_of_act p w q (Goes top) = turned_to p w q top
turn_of_act p w q (Returns v) = Gives w (bare_newest q) v

abbrev pub turn_of : Setting → Frames → Outcome Act → Turned
turn_of p q (Went w act) = turn_of_act p w q act
turn_of p q (Stopped w why) = Halts w (bare_newest q) why

-- ---- what code answers

-- the line is still to be made and written
abbrev pub turn_of_trace : Setting → (count : ℕ) → How → World → Frames → Turned
turn_of_trace p count how w q = turn_of p q (and_then (trace p (arguments count (newest q)) w) (settles_how how (newest q)))

-- the formula is still to be asked
abbrev pub turn_of_formula : Setting → (formula count : ℕ) → How → World → Frames → Turned
turn_of_formula p n count how w q = turn_of p q (and_then (calls_what p (Formula n) Undefined (arguments count (newest q)) w) (settles_how how (newest q)))

abbrev pub turn_of_left : Setting → Left → World → Frames → Turned
turn_of_left p lefts.Goes w q = GoesOn w q
turn_of_left p (lefts.Returns v) w q = Gives w (bare_newest q) v
turn_of_left p (lefts.Traces count how) w q = turn_of_trace p count how w q
turn_of_left p (lefts.Asks n count how) w q = turn_of_formula p n count how w q

-- what a step makes of the frames, by what code answers: it goes on, leaves something to be done, or stops
abbrev pub turn_of_answer : Setting → Result Left Stop → World → Frames → Turned
turn_of_answer p (Ok l) w q = turn_of_left p l w q
turn_of_answer p (Err e) w q = Halts w (bare_newest q) (why e)

-- of code that goes on, or stops
abbrev pub went : Result Unit Stop → World → Frames → Turned
went (Ok u) w q = GoesOn w q
went (Err e) w q = Halts w (bare_newest q) (why e)

-- ---- the code of an instruction does what its act says

-- code that goes on or stops does the act: from the old state, its result and the new state are what the act makes of that
abbrev pub Runs : LinkedFile → Outer → Run Act → State → Result Unit Stop → State → Type 0
Runs l out act old result new = turn_of (setting_in l out) old.frames (act (world old out)) ≡ went result (world new out) new.frames

abbrev pub Leaves : LinkedFile → Outer → Run Act → State → Result Left Stop → State → Type 0
Leaves l out act old result new = turn_of (setting_in l out) old.frames (act (world old out)) ≡ turn_of_answer (setting_in l out) result (world new out) new.frames

-- an act is done, and it goes on; or nothing is
abbrev pub IsDoneIf : Bool → LinkedFile → Outer → Run Act → State → State → Type 0
IsDoneIf true l out act old new = Runs l out act old (Ok tt) new × (new.given.limit ≡ old.given.limit)
IsDoneIf false l out act old new = new ≡ old
