-- From what a step makes of the frames to the states of the meaning.
use Rattle.std.specs.Prelude.{◌≡◌, ◌≢◌, ℕ, ◌≤◌, List, ◌++◌, IsSome, Ok, Err}
use Rattle.std.specs.Io.KnownBytes.{append_known}
use Rattle.std.specs.declared.option.Option.{Option}
use Rattle.std.specs.declared.result.Result.{Result}
use Rattle.abc_base.specs.Faults.{Rose}
use Rattle.abc_base.specs.Sinks.{GrowsByFront}
use Rattle.abc_run_finish.specs.Ending.{IsSized, end_of_run}
use Rattle.abc_run_finish.specs.declared.ended.Ended.{Ended}
use Rattle.abc_run_calls.specs.Arguments.{HasArgumentRoom}
use Rattle.abc_meaning.specs.ThrowLaws.{IsVerifiedSetting}
use Rattle.abc_meaning.specs.Sound.{AreTypings, IsSound, Typings}
use Rattle.abc_meaning.specs.Step.{gives_back, step_of}
use Rattle.abc_meaning.specs.Throwing.{Done, End, Ends, Machine, Stepped, Steps, goes_on, stops}
use Rattle.abc_run_finish.specs.Outward.{adding}
use Rattle.abc_link_names.specs.Linked.{LinkedFile}
use Rattle.abc_frames.specs.Frame.{under}
use Rattle.abc_run_state.specs.Outer.{Outer, setting_in, world}
use Rattle.abc_run_state.specs.Turns.{GoesOn, Gives, Halts, Turned, turn_of_answer}
use Rattle.abc_meaning.specs.Setting.{Setting}
use Rattle.abc_run_state.specs.declared.state.Left.{Left}
use Rattle.abc_run_state.specs.declared.state.State.{State}
use Rattle.abc_run_state.specs.declared.state.Stop.{Stop}
use Rattle.abc_run_finish.specs.declared.halts.Halt.{Halt}
use Rattle.abc_run_finish.specs.declared.halts.Halt.TheVariants as halts

abbrev pub step_of_turn : Setting → Turned → Stepped
step_of_turn p (GoesOn w q) = goes_on w q.living
step_of_turn p (Gives w q v) = gives_back p w v (under q.living)
step_of_turn p (Halts w q why) = stops p w q.living why

-- a state of the machine, as the meaning sees it
abbrev pub machine : State → Outer → Machine
machine s out = record { world = world s out; frames = s.frames.living }

-- ---- a step of a run

-- a state that a run reaches: it is sound, its frames may keep what their routines say, and there is room for first locals
pub record IsReached (l : LinkedFile) (out : Outer) (s : State) : Type 0 where
  pub verified : IsVerifiedSetting (setting_in l out)
  pub typings : Typings
  pub typed : AreTypings (setting_in l out) typings
  pub sound : IsSound (setting_in l out) typings (machine s out)
  pub sized : IsSized (setting_in l out) s.arena.limits s.frames
  pub known : HasArgumentRoom l s.given.limit

abbrev pub step_here : LinkedFile → Outer → State → Stepped
step_here l out s = step_of (setting_in l out) (world s out) s.frames.living

-- a step of the meaning goes on, having written some bytes
pub record GoesOnIn (r : Stepped) (out : Outer) (new : State) (before now : Option (List ℕ)) : Type 0 where
  pub bytes : List ℕ
  pub goes : r ≡ goes_on (world new (adding bytes out)) new.frames.living
  pub sink : IsSome before → now ≡ append_known before bytes

-- it ends in this state, having written nothing
pub record EndsIn (r : Stepped) (out : Outer) (new : State) (end : End) (before now : Option (List ℕ)) : Type 0 where
  pub ends : r ≡ Ends (world new out) end
  pub sink : now ≡ before

-- it goes on, but writing its bytes failed; the heap is what it goes on with
pub record FailsIn (r : Stepped) (out : Outer) (new : State) (before now : Option (List ℕ)) : Type 0 where
  pub bytes : List ℕ
  pub next : Machine
  pub goes : r ≡ Steps next
  pub wrote : next.world.wrote ≡ out.wrote ++ bytes
  pub heap : next.world.heap ≡ new.arena
  pub sink : IsSome before → GrowsByFront before now bytes

-- code did a step of the meaning, which leaves r: it goes on or ends as that says, or writing the bytes failed
abbrev pub StepsIn : Stepped → Outer → Result Unit Halt → (new : State) → (before now : Option (List ℕ)) → Type 0
StepsIn r out (Ok u) new before now = GoesOnIn r out new before now
StepsIn r out (Err (halts.Returns v)) new before now = EndsIn r out new Done before now
StepsIn r out (Err (halts.Ends e)) new before now = EndsIn r out new (end_of_run e) before now
StepsIn r out (Err halts.Fails) new before now = FailsIn r out new before now

-- the step of a state
abbrev pub GoesOnAs : LinkedFile → Outer → (old new : State) → (before now : Option (List ℕ)) → Type 0
GoesOnAs l out old new before now = GoesOnIn (step_here l out old) out new before now

abbrev pub EndsAs : LinkedFile → Outer → (old new : State) → End → (before now : Option (List ℕ)) → Type 0
EndsAs l out old new end before now = EndsIn (step_here l out old) out new end before now

abbrev pub FailsAs : LinkedFile → Outer → (old new : State) → (before now : Option (List ℕ)) → Type 0
FailsAs l out old new before now = FailsIn (step_here l out old) out new before now

-- code did the step of the old state
abbrev pub StepsAs : LinkedFile → Outer → (old : State) → Result Unit Halt → (new : State) → (before now : Option (List ℕ)) → Type 0
StepsAs l out old r new before now = StepsIn (step_here l out old) out r new before now

-- what else a step leaves: frames that may keep what their routines say, where the sink didn't fail; a count of faults that never falls, and
-- that rose where it failed; and the room for first locals
pub record LeavesStep (p : Setting) (r : Result Unit Halt) (old new : State) (before now : ℕ) : Type 0 where
  pub sized : r ≢ Err halts.Fails → IsSized p new.arena.limits new.frames
  pub later : before ≤ now
  pub cause : r ≡ Err halts.Fails → Rose before now
  pub limit : new.given.limit ≡ old.given.limit

-- what an instruction left to be done, in the words of the meaning
abbrev pub left_here : LinkedFile → Outer → State → Result Left Stop → Stepped
left_here l out s left = step_of_turn (setting_in l out) (turn_of_answer (setting_in l out) left (world s out) s.frames)

-- an end of the file's run ends the machine's
abbrev pub halted_as : Result Unit Ended → Result Unit Halt
halted_as (Ok u) = Ok u
halted_as (Err e) = Err (halts.Ends e)
