-- What the code of an act promises: an act is what is done to the newest frame, by the setting.
use Rattle.std.specs.Prelude.{◌≡◌, Bool}
use Rattle.std.specs.declared.result.Result.{Result}
use Rattle.abc_frames.specs.Frame.{Frame, newest}
use Rattle.abc_link_names.specs.Linked.{LinkedFile}
use Rattle.abc_meaning.specs.At.{Act}
use Rattle.abc_meaning.specs.Setting.{Setting}
use Rattle.abc_meaning.specs.World.{Run}
use Rattle.abc_run_state.specs.Outer.{Outer, setting_in}
use Rattle.abc_run_state.specs.Turns.{IsDoneIf, Runs}
use Rattle.abc_run_state.specs.declared.state.State.{State}
use Rattle.abc_run_state.specs.declared.state.Stop.{Stop}

-- the code does what the act says, and first locals keep their limit: it goes on, or stops
pub record Does (l : LinkedFile) (out : Outer) (act : Setting → Frame → Run Act) (old : State) (result : Result Unit Stop) (new : State) : Type 0 where
  pub runs : Runs l out (act (setting_in l out) (newest old.frames)) old result new
  pub limit : new.given.limit ≡ old.given.limit

-- or it does that and the frame goes on, or does nothing, and says which
abbrev pub DoesIf : Bool → LinkedFile → Outer → (Setting → Frame → Run Act) → State → State → Type 0
DoesIf done l out act old new = IsDoneIf done l out (act (setting_in l out) (newest old.frames)) old new
