use Rattle.abc_c.proofs.Begun.{opened_for}
use Rattle.abc_c.specs.declared.kept.Kept.{Kept}
use Rattle.abc_c.proofs.opening.open.Goals as goal

pub returns-in-Ok : goal.returns-in-Ok
returns-in-Ok c = opened_for (λ (kept : Kept). kept.session) c.args.bytes.now c.args.bounds.now c.in-Ok.verified c.open.result c.in-Ok.ensures c.open.ensures

pub returns-in-Err : goal.returns-in-Err
returns-in-Err c = c.unopened_by.ensures c.args.bytes.now c.args.bounds.now c.in-Err.ensures
