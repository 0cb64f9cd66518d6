use Rattle.std.proofs.Common.{◌∙◌, ap, sym}
use Rattle.std.proofs.lemmas.Result.{err_from_is_err_and}
use Rattle.abc_heap_values.specs.declared.values.Value.TheVariants.{Obj}
use Rattle.abc_frames.specs.Frame.{newest}
use Rattle.abc_meaning.specs.Newing.{object_value}
use Rattle.abc_run_state.specs.Outer.{setting_in, world}
use Rattle.abc_run_state.specs.Settling.{pushes_instead}
use Rattle.abc_run_state.specs.Turns.{turn_of}
use Rattle.abc_meaning.specs.Objects.{new_object}
use Rattle.abc_run_state.proofs.Pushing.{object_stopped, object_went, pushes_on, pushes_stopped}
use Rattle.abc_run_state.proofs.arms.new_scope_object.Goals as goal

pub returns-clause-runs : goal.returns-clause-runs
returns-clause-runs c = λ out.
    let p = setting_in c.args.linked.now out in
    let q = c.args.s.now.frames in
    let w = world c.args.s.now out in
    let new = world c.make_object.new.s out in
    let m = new_object p c.args.layout.0 c.prototype_for-delegate.result c.args.what in
    ap (λ d. turn_of p q (pushes_instead 0 (newest q) (object_value (new_object p c.args.layout.0 d c.args.what)) w)) (sym c.prototype_for-delegate.ensures.is)
    ∙ pushes_on p q c.make_object.new.s.frames c.finish.new.frames 0 (object_value m) w new (Obj c.in_ok-made.made)
    (object_went m w new c.in_ok-made.made (c.in_ok-made.ensures.part out)) c.in_ok-made.ensures.stays.frames c.finish.ensures

pub returns-in_err-made-clause-runs : goal.returns-in_err-made-clause-runs
returns-in_err-made-clause-runs c = λ out.
    let p = setting_in c.args.linked.now out in
    let q = c.args.s.now.frames in
    let w = world c.args.s.now out in
    let new = world c.make_object.new.s out in
    let m = new_object p c.args.layout.0 c.prototype_for-delegate.result c.args.what in
    let e = err_from_is_err_and c.from_residual.result c.from_residual.ensures.1 in
    let same = ap (λ d. turn_of p q (pushes_instead 0 (newest q) (object_value (new_object p c.args.layout.0 d c.args.what)) w)) (sym c.prototype_for-delegate.ensures.is) in
    rw (e.1, e.2) (same ∙ pushes_stopped p q c.make_object.new.s.frames 0 (object_value m) w new c.in_err-made.field-0.0 (object_stopped m w new c.in_err-made.field-0.0 (c.in_err-made.ensures.part out)) c.in_err-made.ensures.stays.frames)
