use Rattle.std.proofs.Common.{refl}
use Rattle.std.proofs.lemmas.Result.{err_from_is_err_and}
use Rattle.abc_heap_values.specs.declared.values.Value.{Value}
use Rattle.abc_heap_values.specs.declared.values.Value.TheVariants.{Bool as Truth}
use Rattle.abc_link_names.specs.declared.types.Ty.{Ty}
use Rattle.abc_frames.specs.Frame.{newest}
use Rattle.abc_meaning.specs.Late.{is_instance, late_type}
use Rattle.abc_run_state.proofs.Pushing.{pushes_on, pushes_stopped}
use Rattle.abc_run_state.specs.Operands.{operand_at}
use Rattle.abc_run_state.specs.Outer.{setting_in, world}
use Rattle.abc_run_state.specs.Stops.{why}
use Rattle.abc_meaning.specs.World.{Run, pure, see, ◌>>=◌}
use Rattle.abc_run_names.proofs.Typed.{late_instance, late_stops}
use Rattle.abc_run_names.proofs.late.is_instance_of.Goals as goal

abbrev tests : Value → Value → Ty → Run Value
tests v c t = see (is_instance v c) >>= λ b. pure (Truth b)

pub late_type-requires : goal.late_type-requires
late_type-requires c = c.operand-class.ensures.there c.args.linked.now c.args.s.now.arena c.requires.set.frame.stack

pub is_instance-is-requires-clause-value : goal.is_instance-is-requires-clause-value
is_instance-is-requires-clause-value c = c.operand-v.ensures.there c.args.linked.now c.args.s.now.arena c.requires.set.frame.stack

pub is_instance-is-requires-clause-class : goal.is_instance-is-requires-clause-class
is_instance-is-requires-clause-class c = c.operand-class.ensures.there c.args.linked.now c.args.s.now.arena c.requires.set.frame.stack

pub returns-clause-runs : goal.returns-clause-runs
returns-clause-runs c = λ out.
    let p = setting_in c.args.linked.now out in
    let q = c.args.s.now.frames in
    let f = newest q in
    let w = world c.args.s.now out in
    pushes_on p q q c.finish.new.frames 2 (late_type p (operand_at 0 f) >>= tests (operand_at 1 f) (operand_at 0 f)) w w (Truth c.is_instance-is.result)
    (late_instance p c.operand-class.result (operand_at 0 f) c.operand-v.result (operand_at 1 f) w c.in_ok-late_type.field-0 c.is_instance-is.result c.operand-class.ensures.is c.operand-v.ensures.is (c.in_ok-late_type.ensures out) (c.is_instance-is.ensures out)) refl c.finish.ensures

pub returns-in_err-late_type-clause-runs : goal.returns-in_err-late_type-clause-runs
returns-in_err-late_type-clause-runs c = λ out.
    let p = setting_in c.args.linked.now out in
    let q = c.args.s.now.frames in
    let f = newest q in
    let w = world c.args.s.now out in
    let e = err_from_is_err_and c.from_residual.result c.from_residual.ensures.1 in
    rw (e.1, e.2) (pushes_stopped p q q 2 (late_type p (operand_at 0 f) >>= tests (operand_at 1 f) (operand_at 0 f)) w w c.in_err-late_type.field-0.0
    (late_stops p c.operand-class.result (operand_at 0 f) (tests (operand_at 1 f) (operand_at 0 f)) w (why c.in_err-late_type.field-0.0) c.operand-class.ensures.is (c.in_err-late_type.ensures out)) refl)
