use Rattle.std.proofs.lemmas.Result.{err_from_is_err_and}
use Rattle.abc_run_finish.proofs.OpeningLimits.{refused}
use Rattle.abc_run_finish.proofs.opening.open_state.Goals as goal

pub returns-in_err-arena : goal.returns-in_err-arena
returns-in_err-arena g c =
    let e = err_from_is_err_and c.from_residual.result c.from_residual.ensures.1 in
    rw (e.1, e.2) (refused c.args.linked.now (g.H.Host.formulas c.args.host.now) c.args.limits.now c.in_err-arena.field-0.0 c.linked_law.ensures c.in_err-arena.ensures.opened)
