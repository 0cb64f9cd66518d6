-- What stays where a part of a step changes no frame and none of what a call fills.
use Rattle.std.proofs.Common.{◌≡◌, ℕ, ap, subst, sym}
use Rattle.abc_heap_values.specs.declared.values.Value.{Value}
use Rattle.abc_frames.specs.Ready.{HasFrameRoom}
use Rattle.abc_link_names.specs.Linked.{LinkedFile}
use Rattle.abc_run_calls.specs.Arguments.{HasArgumentRoom}
use Rattle.abc_heap_values.specs.Filling.{Filling}
use Rattle.abc_frames.specs.Frame.{Frames}
use Rattle.abc_run_state.specs.Standing.{Stays}
use Rattle.abc_run_state.specs.declared.state.State.{State}

pub ready_stays : (a b : ℕ) (q mid : Frames) → mid ≡ q → HasFrameRoom a b q → HasFrameRoom a b mid
ready_stays a b q mid same h = subst (HasFrameRoom a b) (sym same) h

pub known_stays : (l : LinkedFile) (old mid : State) → Stays l old mid → HasArgumentRoom l old.given.limit → HasArgumentRoom l mid.given.limit
known_stays l old mid s h = subst (λ (g : Filling Value). HasArgumentRoom l g.limit) (sym s.given) h

pub limit_stays : (l : LinkedFile) (old mid : State) → Stays l old mid → mid.given.limit ≡ old.given.limit
limit_stays l old mid s = ap (λ (g : Filling Value). g.limit) s.given
