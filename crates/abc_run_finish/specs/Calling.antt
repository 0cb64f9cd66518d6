-- What the code that begins a call relies on: a world that stands, no frame, and a method that can be entered with these numbers.
use Rattle.std.specs.Prelude.{◌≡◌, ◌<◌, ◌^◌, ℕ, ℤ, List, [], length}
use Rattle.abc_heap_values.specs.declared.values.Value.{Value}
use Rattle.abc_run_finish.specs.Ending.{IsUnstuck, IsSized}
use Rattle.abc_run_calls.specs.Arguments.{HasArgumentRoom}
use Rattle.abc_meaning.specs.Calls.{begins_call, enters_call}
use Rattle.abc_meaning.specs.Fair.{IsFairPart}
use Rattle.abc_meaning.specs.Throwing.{last_script}
use Rattle.abc_objects.specs.Stands.{StandsOver}
use Rattle.abc_link_names.specs.Linked.{LinkedFile}
use Rattle.abc_frames.specs.Frame.{Frame}
use Rattle.abc_run_state.specs.Outer.{Outer, setting_in, world}
use Rattle.abc_meaning.specs.Entering.{enters_owned, global}
use Rattle.abc_meaning.specs.Setting.{Setting}
use Rattle.abc_meaning.specs.World.{Run, see, ◌>>=◌}
use Rattle.abc_run_state.specs.declared.state.State.{State}

-- over no frame a method can be entered with these numbers, and the call isn't stuck at once
pub record CanBeginCall (l : LinkedFile) (out : Outer) (m : ℕ) (ns : List ℤ) (s : State) : Type 0 where
  pub over : StandsOver l s.arena
  pub none : s.frames.living ≡ []
  pub sized : IsSized (setting_in l out) s.arena.limits s.frames
  pub known : HasArgumentRoom l s.given.limit
  pub scripts : 0 < length l.file.scripts
  pub few : length l.file.scripts < 2 ^ 32
  pub fair : IsFairPart (setting_in l out) (world s out) (enters_call (setting_in l out) m ns (world s out))
  pub free : IsUnstuck (begins_call (setting_in l out) (world s out) m ns)

-- a method is entered on the global object of the last script, with any values
abbrev pub enters_last : Setting → (method : ℕ) → List Value → Run Frame
enters_last p m given = see (global (last_script p)) >>= λ this. enters_owned p m this given
