use Rattle.std.proofs.Common.{refl}
use Rattle.std.proofs.lemmas.Result.{err_from_is_err_and}
use Rattle.abc_frames.specs.Frame.{newest}
use Rattle.abc_meaning.specs.Late.{kept_as, late_type}
use Rattle.abc_run_state.proofs.Pushing.{pushes_on, pushes_stopped}
use Rattle.abc_run_state.specs.Operands.{operand_at}
use Rattle.abc_run_state.specs.Outer.{setting_in, world}
use Rattle.abc_run_state.specs.Stops.{why}
use Rattle.abc_meaning.specs.World.{◌>>=◌}
use Rattle.abc_run_names.proofs.Typed.{late_kept, late_stops}
use Rattle.abc_run_names.proofs.late.as_late.Goals as goal

pub late_type-requires : goal.late_type-requires
late_type-requires c = c.operand-class.ensures.there c.args.linked.now c.args.s.now.arena c.requires.set.frame.stack

pub is_it-is-requires-clause-value : goal.is_it-is-requires-clause-value
is_it-is-requires-clause-value c = c.operand-v.ensures.there c.args.linked.now c.args.s.now.arena c.requires.set.frame.stack

pub returns-clause-runs : goal.returns-clause-runs
returns-clause-runs c = λ out.
    let p = setting_in c.args.linked.now out in
    let q = c.args.s.now.frames in
    let f = newest q in
    let w = world c.args.s.now out in
    pushes_on p q q c.finish.new.frames 2 (late_type p (operand_at 0 f) >>= kept_as p (operand_at 1 f)) w w c.value_or_null.result
    (late_kept p c.operand-class.result (operand_at 0 f) c.operand-v.result (operand_at 1 f) w c.in_ok-ty.ty c.is_it-is.result c.value_or_null.result c.operand-class.ensures.is c.operand-v.ensures.is (c.in_ok-ty.ensures out) c.is_it-is.ensures c.value_or_null.ensures) refl c.finish.ensures

pub returns-in_err-ty-clause-runs : goal.returns-in_err-ty-clause-runs
returns-in_err-ty-clause-runs c = λ out.
    let p = setting_in c.args.linked.now out in
    let q = c.args.s.now.frames in
    let f = newest q in
    let w = world c.args.s.now out in
    let e = err_from_is_err_and c.from_residual.result c.from_residual.ensures.1 in
    rw (e.1, e.2) (pushes_stopped p q q 2 (late_type p (operand_at 0 f) >>= kept_as p (operand_at 1 f)) w w c.in_err-ty.field-0.0
    (late_stops p c.operand-class.result (operand_at 0 f) (kept_as p (operand_at 1 f)) w (why c.in_err-ty.field-0.0) c.operand-class.ensures.is (c.in_err-ty.ensures out)) refl)
