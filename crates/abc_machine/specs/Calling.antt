-- What a call is begun with: a sound world of a verified file, and no frame.
use Rattle.std.specs.Prelude.{◌≡◌, ℕ, []}
use Rattle.abc_meaning.specs.Exports.{IsScriptMethod}
use Rattle.abc_run_finish.specs.Ending.{IsSized}
use Rattle.abc_run_calls.specs.Arguments.{HasArgumentRoom}
use Rattle.abc_meaning.specs.ThrowLaws.{IsVerifiedSetting}
use Rattle.abc_meaning.specs.Sound.{WorldSound}
use Rattle.abc_link_names.specs.Linked.{LinkedFile}
use Rattle.abc_run_state.specs.Outer.{Outer, setting_in, world}
use Rattle.abc_run_state.specs.declared.state.State.{State}

-- a method trait of the last script can be called
pub record CanCall (l : LinkedFile) (out : Outer) (m : ℕ) (s : State) : Type 0 where
  pub verified : IsVerifiedSetting (setting_in l out)
  pub sound : WorldSound (setting_in l out) (world s out)
  pub none : s.frames.living ≡ []
  pub sized : IsSized (setting_in l out) s.arena.limits s.frames
  pub known : HasArgumentRoom l s.given.limit
  pub exported : IsScriptMethod (setting_in l out) m
