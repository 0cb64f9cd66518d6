-- What the code of an act asks, and what it promises where it may leave something to be done.
use Rattle.std.specs.Prelude.{◌≡◌, Bool, true, Ok}
use Rattle.std.specs.declared.result.Result.{Result}
use Rattle.abc_frames.specs.Frame.{Frame, newest}
use Rattle.abc_link_names.specs.Linked.{LinkedFile}
use Rattle.abc_meaning.specs.At.{Act}
use Rattle.abc_meaning.specs.Setting.{Setting}
use Rattle.abc_meaning.specs.World.{Run}
use Rattle.abc_run_calls.specs.Arguments.{HasArgumentRoom}
use Rattle.abc_run_calls.specs.Calls.{CanFinish}
use Rattle.abc_run_state.specs.Outer.{Outer, setting_in, world}
use Rattle.abc_run_state.specs.Standing.{IsSet}
use Rattle.abc_run_state.specs.Stops.{IsOpen}
use Rattle.abc_run_state.specs.Turns.{Leaves}
use Rattle.abc_run_state.specs.declared.state.Left.{Left}
use Rattle.abc_run_state.specs.declared.state.Left.TheVariants as lefts
use Rattle.abc_run_state.specs.declared.state.State.{State}
use Rattle.abc_run_state.specs.declared.state.Stop.{Stop}

-- what the newest frame names is there, each method's first locals have room, and the act isn't stuck
pub record CanDo (l : LinkedFile) (out : Outer) (act : Setting → Frame → Run Act) (s : State) : Type 0 where
  pub set : IsSet l s
  pub known : HasArgumentRoom l s.given.limit
  pub free : IsOpen (act (setting_in l out) (newest s.frames) (world s out))

-- the code does what the act says, and first locals keep their limit; what it leaves to be done can be finished
pub record DoesOrLeaves (l : LinkedFile) (out : Outer) (act : Setting → Frame → Run Act) (old : State) (result : Result Left Stop) (new : State) : Type 0 where
  pub leaves : Leaves l out (act (setting_in l out) (newest old.frames)) old result new
  pub finishes : CanFinish l result new
  pub limit : new.given.limit ≡ old.given.limit

-- or it answers whether the frame goes on; else `left` holds what is left to be done, or why it stops
pub record Dispatches (l : LinkedFile) (out : Outer) (act : Setting → Frame → Run Act) (old : State) (goes_on : Bool) (left : Result Left Stop) (new : State) : Type 0 where
  pub leaves : Leaves l out (act (setting_in l out) (newest old.frames)) old left new
  pub finishes : CanFinish l left new
  pub goes : goes_on ≡ true → left ≡ Ok lefts.Goes
  pub limit : new.given.limit ≡ old.given.limit
