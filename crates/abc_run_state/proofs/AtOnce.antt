-- What is done at once, or not at all.
use Rattle.std.proofs.Common.{◌≡◌, Bool, true, false, ap, ◌∙◌, subst}
use Rattle.abc_link_names.specs.Linked.{LinkedFile}
use Rattle.abc_meaning.specs.At.{Act}
use Rattle.abc_meaning.specs.World.{Run}
use Rattle.abc_run_state.specs.Outer.{Outer, setting_in, world}
use Rattle.abc_run_state.specs.Turns.{IsDoneIf, turn_of}
use Rattle.abc_run_state.specs.declared.state.State.{State}

-- ---- an act may be said otherwise

pub done_as : (b : Bool) (l : LinkedFile) (out : Outer) (a k : Run Act) (old new : State) → a (world old out) ≡ k (world old out) → IsDoneIf b l out k old new → IsDoneIf b l out a old new
done_as true l out a k old new e h = (ap (turn_of (setting_in l out) old.frames) e ∙ h.0, h.1)
done_as false l out a k old new e h = h

-- ---- whether it is done

pub is_done : (b : Bool) (l : LinkedFile) (out : Outer) (act : Run Act) (old new : State) → IsDoneIf b l out act old new → b ≡ true → IsDoneIf true l out act old new
is_done b l out act old new h e = subst (λ (x : Bool). IsDoneIf x l out act old new) e h

pub not_done : (b : Bool) (l : LinkedFile) (out : Outer) (act : Run Act) (old new : State) → IsDoneIf b l out act old new → b ≡ false → new ≡ old
not_done b l out act old new h e = subst (λ (x : Bool). IsDoneIf x l out act old new) e h
