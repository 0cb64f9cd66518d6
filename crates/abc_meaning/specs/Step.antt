-- One step: the start of the last script, or the instruction of the newest frame (profile: docs/MACHINE.md, "A step" and "The rules of a run").
use Rattle.std.specs.Prelude.{ℕ, ◌+◌, List, [], ◌∷◌, Bool, true, false, length, take, drop, reverse, slice_get, Some, None}
use Rattle.std.specs.declared.option.Option.{Option}
use Rattle.abc_heap_values.specs.declared.values.Value.{Value}
use Rattle.abc_heap_store.specs.declared.records.Limit.TheVariants.{Frames, Stack}
use Rattle.abc_verify_typing.specs.Instructions.{opcode}
use Rattle.abc_verify_typing.specs.Rows.{Shape, row_at}
use Rattle.abc_file_types.specs.declared.code.Instr.{Instr}
use Rattle.abc_verify_typing.specs.Effects.{Here}
use Rattle.abc_verify_typing.specs.Routines.{Routine}
use Rattle.abc_meaning.specs.Entering.{starts_script}
use Rattle.abc_frames.specs.Frame.{Frame}
use Rattle.abc_meaning.specs.Making.{new}
use Rattle.abc_meaning.specs.Setting.{Setting, routine_of, size_of}
use Rattle.abc_meaning.specs.World.{Outcome, Run, Stopped, Went, World, pure, room, see, sticks, ◌>>=◌, ◌>>◌}
use Rattle.abc_frames.specs.declared.records.Wait.{Wait}
use Rattle.abc_frames.specs.declared.records.Wait.TheVariants as waits
use Rattle.abc_meaning.specs.At.{Above, Act, Doing, Goes, Returns, Stays, Top, next_frame, after_pushes, pushing, waiting_frame}
use Rattle.abc_meaning.specs.Table.{act_of}
use Rattle.abc_meaning.specs.Tests.{at_frame, can_run}
use Rattle.abc_meaning.specs.Throwing.{Done, Ends, Machine, Stepped, goes_on, last_script, stops}

-- ---- an instruction: its row, the tests, and then its act

abbrev pub or_stuck : Bool → Run Act → Run Act
or_stuck true m = m
or_stuck false m = sticks

abbrev pub does : Setting → Here → Frame → Option Doing → Run Act
does p h f None = sticks
does p h f (Some act) = see (can_run p h f) >>= λ b. or_stuck b (act (at_frame p h f))

abbrev pub does_row : Setting → Routine → Frame → Instr → Option Shape → Run Act
does_row p r f i None = sticks
does_row p r f i (Some row) = does p (record { file = p.linked; method = r; place = f.place; instr = i; row = row }) f (act_of (opcode i))

abbrev pub does_instr : Setting → Routine → Frame → Option Instr → Run Act
does_instr p r f None = sticks
does_instr p r f (Some i) = does_row p r f i (row_at (opcode i))

abbrev pub runs : Setting → Frame → Option Routine → Run Act
runs p f None = sticks
runs p f (Some r) = does_instr p r f (slice_get r.code f.place)

-- ---- the room of frames: one for each that lives, and the values that it may keep

abbrev pub values_kept : Option Routine → ℕ
values_kept None = 0
values_kept (Some r) = size_of r

abbrev pub size_of_frame : Setting → Frame → ℕ
size_of_frame p f = values_kept (routine_of p f.method)

abbrev pub size_of_frames : Setting → List Frame → ℕ
size_of_frames p [] = 0
size_of_frames p (f ∷ fs) = size_of_frame p f + size_of_frames p fs

-- a new frame takes its room last of all, frames first, and is put on top
abbrev pub room_for_frame : Setting → Frame → List Frame → Run (Unit {0})
room_for_frame p g fs w = (room Frames (length fs) 1 w.heap.limits.frames >> room Stack (size_of_frames p fs) (size_of_frame p g) w.heap.limits.stack) w

abbrev pub put_on : Setting → Frame → List Frame → Outcome (Unit {0}) → Stepped
put_on p g fs (Went w u) = goes_on w (g ∷ fs)
put_on p g fs (Stopped w why) = stops p w fs why

abbrev pub puts : Setting → World → Frame → List Frame → Stepped
puts p w g fs = put_on p g fs (room_for_frame p g fs w)

abbrev pub settles : Setting → World → List Frame → Top → Stepped
settles p w fs (Stays f) = goes_on w (f ∷ fs)
settles p w fs (Above g f) = puts p w g (f ∷ fs)

-- ---- a return, by the way in which the frame below waits

abbrev pub resumes : Setting → Frame → Wait → Value → Run Top
resumes p f waits.Push v = pure (Stays (after_pushes (v ∷ []) f))
resumes p f waits.Drop v = pure (Stays (next_frame f))
resumes p f (waits.Keep kept) v = pure (Stays (after_pushes (kept ∷ []) f))
resumes p f waits.Again v = pure (Stays f)
resumes p f (waits.New n) v = new p v (reverse (take n f.stack)) >>= λ c. pure (pushing (record f { stack = drop n f.stack }) c)
resumes p f waits.Not v = sticks

abbrev pub after_resume : Setting → Frame → List Frame → Outcome Top → Stepped
after_resume p f fs (Went w top) = settles p w fs top
after_resume p f fs (Stopped w why) = stops p w (f ∷ fs) why

-- the run is done when the last frame returns
abbrev pub gives_back : Setting → World → Value → List Frame → Stepped
gives_back p w v [] = Ends w Done
gives_back p w v (f ∷ fs) = after_resume p f fs (resumes p (waiting_frame waits.Not f) f.wait v w)

-- ---- what an instruction comes to

abbrev pub after_act : Setting → Frame → List Frame → Outcome Act → Stepped
after_act p f fs (Went w (Goes top)) = settles p w fs top
after_act p f fs (Went w (Returns v)) = gives_back p w v fs
after_act p f fs (Stopped w why) = stops p w (f ∷ fs) why

abbrev pub after_start : Setting → Outcome Frame → Stepped
after_start p (Went w f) = puts p w f []
after_start p (Stopped w why) = stops p w [] why

abbrev pub step_of : Setting → World → List Frame → Stepped
step_of p w [] = after_start p (starts_script p (last_script p) w)
step_of p w (f ∷ fs) = after_act p f fs (runs p f (routine_of p f.method) w)

abbrev pub step : Setting → Machine → Stepped
step p q = step_of p q.world q.frames
