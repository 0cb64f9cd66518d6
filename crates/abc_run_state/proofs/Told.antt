-- What is left of an act, by what its code answers.
use Rattle.std.proofs.Common.{◌≡◌, sym, subst}
use Rattle.std.specs.Prelude.{Ok, Err}
use Rattle.std.specs.declared.result.Result.{Result}
use Rattle.abc_meaning.specs.At.{Act}
use Rattle.abc_meaning.specs.World.{Run}
use Rattle.abc_link_names.specs.Linked.{LinkedFile}
use Rattle.abc_run_state.specs.Answers.{goes_as}
use Rattle.abc_run_state.specs.Outer.{Outer}
use Rattle.abc_run_state.specs.Turns.{Leaves, Runs}
use Rattle.abc_run_state.specs.declared.state.Left.{Left}
use Rattle.abc_run_state.specs.declared.state.State.{State}
use Rattle.abc_run_state.specs.declared.state.Stop.{Stop}

-- ---- what goes on leaves nothing

pub runs_leaves : (l : LinkedFile) (out : Outer) (act : Run Act) (old new : State) (done : Result Unit Stop) (result : Result Left Stop) → result ≡ goes_as done → Runs l out act old done new → Leaves l out act old result new
runs_leaves l out act old new done result e r = subst (λ (x : Result Left Stop). Leaves l out act old x new) (sym e) (gone done r)
  where
    gone : (d : Result Unit Stop) → Runs l out act old d new → Leaves l out act old (goes_as d) new
    gone (Ok u) h = h
    gone (Err y) h = h

-- ---- what is told

pub told_leaves : (l : LinkedFile) (out : Outer) (act : Run Act) (old new : State) (done result : Result Left Stop) → result ≡ done → Leaves l out act old done new → Leaves l out act old result new
told_leaves l out act old new done result e h = subst (λ (x : Result Left Stop). Leaves l out act old x new) (sym e) h
