use Rattle.std.proofs.lemmas.Result.{err_from_is_err_and}
use Rattle.abc_run_state.specs.Stops.{why}
use Rattle.abc_run_names.proofs.Naming.{spaced_stopped, spaced_went}
use Rattle.abc_run_names.proofs.runtime_names.with_space.Goals as goal

pub returns-clause-part : goal.returns-clause-part
returns-clause-part c = λ p w. spaced_went p c.args.text c.args.space w w c.in_ok-spaces.spaces (c.in_ok-spaces.ensures w)

pub returns-in_err-spaces-clause-part : goal.returns-in_err-spaces-clause-part
returns-in_err-spaces-clause-part c = λ p w.
    let e = err_from_is_err_and c.from_residual.result c.from_residual.ensures.1 in
    rw (e.1, e.2) (spaced_stopped p c.args.text c.args.space w w (why c.in_err-spaces.field-0.0) (c.in_err-spaces.ensures w))
