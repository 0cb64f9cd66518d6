-- What becomes of a step that goes no further, as code answers it.
use Rattle.std.specs.Prelude.{◌≡◌, ◌≢◌, map, Ok, Err}
use Rattle.std.specs.declared.result.Result.{Result}
use Rattle.abc_heap_store.specs.declared.records.Limits.{Limits}
use Rattle.abc_meaning.specs.Throwing.{End, Ends, Full, Profile, Stepped, Stuck, Uncaught, goes_on}
use Rattle.abc_frames.specs.Frame.{Frames}
use Rattle.abc_run_state.specs.Turns.{size_for}
use Rattle.abc_meaning.specs.Setting.{Setting}
use Rattle.abc_meaning.specs.World.{World}
use Rattle.abc_base.specs.declared.names.HostClass.TheVariants as hosts
use Rattle.abc_heap_store.specs.Heap.{Heap}
use Rattle.abc_objects.specs.Values.{Exists}
use Rattle.abc_link_names.specs.Linked.{LinkedFile}
use Rattle.abc_run_state.specs.declared.state.Stop.{Stop}
use Rattle.abc_run_state.specs.declared.state.Stop.TheVariants as stops
use Rattle.abc_run_finish.specs.declared.ended.Ended.{Ended}
use Rattle.abc_run_finish.specs.declared.ended.Ended.TheVariants as ended

abbrev pub end_of_run : Ended → End
end_of_run (ended.Uncaught thrown) = Uncaught thrown
end_of_run (ended.Profile method index fault) = Profile method index fault
end_of_run (ended.Full limit) = Full limit

-- what a step leaves, by what code answers: it goes on with these frames, or the run ended
abbrev pub stepped_by : Result Unit Ended → World → Frames → Stepped
stepped_by (Ok u) w q = goes_on w q.living
stepped_by (Err e) w q = Ends w (end_of_run e)

-- no test failed
abbrev pub IsUnstuck : Stepped → Type 0
IsUnstuck s = (w : World) → s ≢ Ends w Stuck

-- the frames may keep what their routines say, and within the limits
pub record IsSized (p : Setting) (limits : Limits) (q : Frames) : Type 0 where
  pub sizes : q.sizes ≡ map (size_for p) q.living
  pub frames : q.frame_limit ≡ limits.frames
  pub values : q.value_limit ≡ limits.stack

-- a value that is thrown is there, and an error that is made is no array
abbrev pub IsThrowable : LinkedFile → Heap → Stop → Type 0
IsThrowable l h (stops.Throws v) = Exists l h v
IsThrowable l h (stops.Errs c) = c ≢ hosts.Array
IsThrowable l h (stops.Faults fault) = Unit {0}
IsThrowable l h (stops.Fills limit) = Unit {0}

-- a limit is reached
abbrev pub IsLimitReached : Stop → Type 0
IsLimitReached (stops.Fills limit) = Unit {0}
IsLimitReached (stops.Throws v) = ⊥
IsLimitReached (stops.Errs c) = ⊥
IsLimitReached (stops.Faults fault) = ⊥
