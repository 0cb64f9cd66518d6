-- What the code that finishes a step relies on: what an instruction of a sound state makes of the frames.
use Rattle.std.specs.Prelude.{◌≡◌, ℕ, ◌<◌, ◌≤◌, ◌^◌, List, [], ◌∷◌, length}
use Rattle.abc_heap_values.specs.declared.values.Value.{Value}
use Rattle.abc_run_finish.specs.Ending.{IsUnstuck, IsSized}
use Rattle.abc_run_calls.specs.Arguments.{HasArgumentRoom}
use Rattle.abc_meaning.specs.Fair.{IsFairPart, IsFairStop, IsWaiting}
use Rattle.abc_meaning.specs.Sound.{WorldSound}
use Rattle.abc_meaning.specs.Step.{after_resume, resumes}
use Rattle.abc_meaning.specs.Throwing.{Stepped, last_script}
use Rattle.abc_objects.specs.Stands.{StandsOver}
use Rattle.abc_objects.specs.Values.{Exists}
use Rattle.abc_link_names.specs.Linked.{LinkedFile}
use Rattle.abc_frames.specs.Frame.{Frame, Frames, newest, under, waiting}
use Rattle.abc_frames.specs.declared.records.Wait.{Wait}
use Rattle.abc_frames.specs.declared.records.Wait.TheVariants as waits
use Rattle.abc_run_state.specs.Outer.{Outer, setting_in, world}
use Rattle.abc_run_state.specs.Turns.{GoesOn, Gives, Halts, Turned}
use Rattle.abc_meaning.specs.Entering.{starts_script}
use Rattle.abc_meaning.specs.Setting.{Setting}
use Rattle.abc_meaning.specs.World.{Stop, World}
use Rattle.abc_run_state.specs.declared.state.State.{State}
use Rattle.abc_run_finish.specs.Steps.{step_here, step_of_turn}

-- a sound world, and frames that may keep what their routines say
pub record IsSoundAndSized (p : Setting) (w : World) (q : Frames) : Type 0 where
  pub sound : WorldSound p w
  pub sized : IsSized p w.heap.limits q

-- the arguments with which an object is made of what returns
abbrev pub HasArguments : Wait → Frame → Type 0
HasArguments (waits.New n) f = n ≤ length f.stack
HasArguments waits.Not f = Unit {0}
HasArguments waits.Push f = Unit {0}
HasArguments waits.Drop f = Unit {0}
HasArguments (waits.Keep v) f = Unit {0}
HasArguments waits.Again f = Unit {0}

-- a frame that waits can go on with a value
pub record CanTake (p : Setting) (w : World) (v : Value) (f : Frame) : Type 0 where
  pub there : IsWaiting p w.heap f
  pub arguments : HasArguments f.wait f
  pub fair : IsFairPart p w (resumes p (waiting waits.Not f) f.wait v w)

-- the newest of some frames can, if there is one
abbrev pub FirstCanTake : Setting → World → Value → List Frame → Type 0
FirstCanTake p w v [] = Unit {0}
FirstCanTake p w v (f ∷ fs) = CanTake p w v f

-- the step of a value that returned, of which the newest frame makes an object with so many arguments
abbrev pub made_of : Setting → World → Frames → Value → ℕ → Stepped
made_of p w q v n = after_resume p (newest q) (under q.living) (resumes p (newest q) (waits.New n) v w)

-- a value is given to the frame under the newest
pub record CanGive (p : Setting) (w : World) (q : Frames) (v : Value) : Type 0 where
  pub held : IsSoundAndSized p w q
  pub value : Exists p.linked w.heap v
  pub below : FirstCanTake p w v (under q.living)
  pub this : 0 < length (newest q).locals

-- the newest frame goes no further
pub record CanHalt (p : Setting) (w : World) (q : Frames) (why : Stop) : Type 0 where
  pub held : IsSoundAndSized p w q
  pub fair : IsFairStop p w why
  pub this : 0 < length (newest q).locals

abbrev pub IsHeldTurn : Setting → Turned → Type 0
IsHeldTurn p (GoesOn w q) = IsSoundAndSized p w q
IsHeldTurn p (Gives w q v) = CanGive p w q v
IsHeldTurn p (Halts w q why) = CanHalt p w q why

-- and the step isn't stuck
pub record IsFairTurn (p : Setting) (t : Turned) : Type 0 where
  pub held : IsHeldTurn p t
  pub free : IsUnstuck (step_of_turn p t)

-- over no frame the last script can be started
pub record CanStart (l : LinkedFile) (out : Outer) (s : State) : Type 0 where
  pub over : StandsOver l s.arena
  pub none : s.frames.living ≡ []
  pub known : HasArgumentRoom l s.given.limit
  pub scripts : 0 < length l.file.scripts
  pub few : length l.file.scripts < 2 ^ 32
  pub started : length s.started ≡ length l.file.scripts
  pub sized : IsSized (setting_in l out) s.arena.limits s.frames
  pub fair : IsFairPart (setting_in l out) (world s out) (starts_script (setting_in l out) (last_script (setting_in l out)) (world s out))
  pub free : IsUnstuck (step_here l out s)
