-- What returns: nothing else is left to be done.
use Rattle.std.specs.Prelude.{◌≡◌, Bool, true, false, Ok, Err}
use Rattle.std.specs.declared.result.Result.{Result}
use Rattle.abc_frames.specs.Frame.{Frame, newest}
use Rattle.abc_link_names.specs.Linked.{LinkedFile}
use Rattle.abc_meaning.specs.At.{Act}
use Rattle.abc_meaning.specs.Setting.{Setting}
use Rattle.abc_meaning.specs.World.{Run}
use Rattle.abc_run_state.specs.Outer.{Outer, setting_in}
use Rattle.abc_run_state.specs.Turns.{Leaves}
use Rattle.abc_run_state.specs.declared.state.Left.{Left}
use Rattle.abc_run_state.specs.declared.state.Left.TheVariants as lefts
use Rattle.abc_run_state.specs.declared.state.State.{State}
use Rattle.abc_run_state.specs.declared.state.Stop.{Stop}

-- the frame returns, or the step stops
abbrev pub IsReturned : Result Left Stop → Type 0
IsReturned (Ok lefts.Goes) = ⊥
IsReturned (Ok (lefts.Returns v)) = Unit {0}
IsReturned (Ok (lefts.Traces count how)) = ⊥
IsReturned (Ok (lefts.Asks n count how)) = ⊥
IsReturned (Err e) = Unit {0}

-- it is done as an act says, which changes no state: what returns is put into `left`; or nothing is
pub record ReturnsIf (done : Bool) (l : LinkedFile) (out : Outer) (act : Setting → Frame → Run Act) (s : State) (old new : Result Left Stop) : Type 0 where
  pub leaves : done ≡ true → Leaves l out (act (setting_in l out) (newest s.frames)) s new s
  pub returns : done ≡ true → IsReturned new
  pub undone : done ≡ false → new ≡ old
