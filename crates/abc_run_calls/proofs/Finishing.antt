-- What can be finished, by what code answers.
use Rattle.std.proofs.Common.{◌≡◌, sym, subst}
use Rattle.std.specs.Prelude.{Ok, Err}
use Rattle.std.specs.declared.result.Result.{Result}
use Rattle.abc_run_calls.specs.Calls.{CanFinish}
use Rattle.abc_link_names.specs.Linked.{LinkedFile}
use Rattle.abc_run_state.specs.Answers.{goes_as}
use Rattle.abc_run_state.specs.declared.state.Left.{Left}
use Rattle.abc_run_state.specs.declared.state.State.{State}
use Rattle.abc_run_state.specs.declared.state.Stop.{Stop}

pub goes_finishes : (l : LinkedFile) (done : Result Unit Stop) (s : State) (result : Result Left Stop) → result ≡ goes_as done → CanFinish l result s
goes_finishes l done s result e = subst (λ (x : Result Left Stop). CanFinish l x s) (sym e) (gone done)
  where
    gone : (d : Result Unit Stop) → CanFinish l (goes_as d) s
    gone (Ok u) = tt
    gone (Err y) = tt

pub told_finishes : (l : LinkedFile) (done : Result Left Stop) (s : State) (result : Result Left Stop) → result ≡ done → CanFinish l done s → CanFinish l result s
told_finishes l done s result e h = subst (λ (x : Result Left Stop). CanFinish l x s) (sym e) h
