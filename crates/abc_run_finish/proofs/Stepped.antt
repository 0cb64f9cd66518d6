-- From what becomes of the frames to what the code that goes on relies on.
use Rattle.std.proofs.Common.{◌≡◌, ◌<◌, List, length, refl, sym, ap, ◌∙◌, subst}
use Rattle.abc_run_finish.specs.Ending.{IsUnstuck, IsSized, IsThrowable}
use Rattle.abc_meaning.specs.Fair.{IsFairStop}
use Rattle.abc_meaning.specs.Sound.{SteppedSound, Typings}
use Rattle.abc_meaning.specs.Throwing.{Stepped, stops}
use Rattle.abc_objects.specs.Stands.{StandsOver}
use Rattle.abc_link_names.specs.Linked.{LinkedFile}
use Rattle.abc_frames.specs.Frame.{Frame, Frames, newest, under}
use Rattle.abc_run_state.specs.Outer.{Outer, setting_in, world}
use Rattle.abc_run_state.specs.Stops.{why}
use Rattle.abc_run_state.specs.Turns.{Halts, bare_newest}
use Rattle.abc_meaning.specs.Setting.{Setting}
use Rattle.abc_meaning.specs.World.{Stop, World}
use Rattle.abc_run_state.specs.declared.state.State.{State}
use Rattle.abc_run_state.specs.declared.state.Stop.{Stop as Why}
use Rattle.abc_run_state.specs.declared.state.Stop.TheVariants as stopped
use Rattle.abc_run_finish.specs.Fairly.{IsFairTurn}
use Rattle.abc_run_finish.specs.Steps.{step_of_turn}
use Rattle.abc_run_finish.proofs.Turned.{bared_sized, live_by, living_is, stops_bare}

-- a step that is sound isn't stuck
pub free_of : (p : Setting) (typings : Typings) (s : Stepped) → SteppedSound p typings s → IsUnstuck s
free_of p typings s h w e = (subst (SteppedSound p typings) e h).0 refl

-- ---- where a step goes no further

pub throwable : (l : LinkedFile) (out : Outer) (s : State) (e : Why) → IsFairStop (setting_in l out) (world s out) (why e) → IsThrowable l s.arena e
throwable l out s (stopped.Throws v) h = h
throwable l out s (stopped.Errs c) h = h
throwable l out s (stopped.Faults fault) h = tt
throwable l out s (stopped.Fills limit) h = tt

pub halted_is : (p : Setting) (w : World) (q : Frames) (y : Stop) → 0 < length q.living → step_of_turn p (Halts w (bare_newest q) y) ≡ stops p w q.living y
halted_is p w q y b = sym (stops_bare p w (newest q) (under q.living) y) ∙ ap (λ (fs : List Frame). stops p w fs y) (sym (living_is q b))

-- what the code of a throw relies on
pub record CanStop (l : LinkedFile) (out : Outer) (s : State) (e : Why) : Type 0 where
  pub over : StandsOver l s.arena
  pub value : IsThrowable l s.arena e
  pub sized : IsSized (setting_in l out) s.arena.limits s.frames
  pub free : IsUnstuck (stops (setting_in l out) (world s out) s.frames.living (why e))
  pub is : step_of_turn (setting_in l out) (Halts (world s out) (bare_newest s.frames) (why e)) ≡ stops (setting_in l out) (world s out) s.frames.living (why e)

pub can_stop : (l : LinkedFile) (out : Outer) (s : State) (e : Why) → IsFairTurn (setting_in l out) (Halts (world s out) (bare_newest s.frames) (why e)) → CanStop l out s e
can_stop l out s e fair =
    let p = setting_in l out in
    let h = fair.held in
    let live = live_by s.frames h.this in
    let is = halted_is p (world s out) s.frames (why e) live in
    record {
      over = h.held.sound.stands;
      value = throwable l out s e h.fair;
      sized = bared_sized p s.arena.limits s.frames live h.held.sized;
      free = subst (λ (r : Stepped). IsUnstuck r) is fair.free;
      is = is;
    }
