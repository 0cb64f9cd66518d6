use Rattle.std.proofs.Common.{◌∙◌, ap, refl, sym}
use Rattle.abc_heap_values.specs.declared.values.Value.{Value}
use Rattle.abc_frames.specs.Frame.{newest}
use Rattle.abc_meaning.specs.Walking.{position, value_in, object_of}
use Rattle.abc_run_state.proofs.Pushing.{pushes_on}
use Rattle.abc_run_state.specs.Operands.{operand_at}
use Rattle.abc_run_state.specs.Outer.{world, setting_in}
use Rattle.abc_meaning.specs.World.{Went, pure, see, ◌>>=◌}
use Rattle.abc_run_names.proofs.Walks.{can_walk, is_place, value_is}
use Rattle.abc_run_names.proofs.walking.next_value.Goals as goal

pub value_at-v-requires-clause-object : goal.value_at-v-requires-clause-object
value_at-v-requires-clause-object c = can_walk c.args.linked.now c.args.s.now.arena c.operand-object.result (c.operand-object.ensures.there c.args.linked.now c.args.s.now.arena c.requires.set.frame.stack)

pub value_at-v-requires-clause-at : goal.value_at-v-requires-clause-at
value_at-v-requires-clause-at c = is_place c.args.linked.now c.args.s.now.arena c.operand-at.result (c.operand-at.ensures.there c.args.linked.now c.args.s.now.arena c.requires.set.frame.stack)

pub returns-clause-runs : goal.returns-clause-runs
returns-clause-runs c = λ out.
    let q = c.args.s.now.frames in
    let f = newest q in
    let w = world c.args.s.now out in
    pushes_on (setting_in c.args.linked.now out) q q c.finish.new.frames 2 (see (object_of (operand_at 1 f)) >>= λ ob. pure (value_in ob (position (operand_at 0 f)))) w w c.value_at-v.result
    (ap (λ (x : Value). Went w (value_in (object_of x w) (position (operand_at 0 f)))) (sym c.operand-object.ensures.is) ∙ ap (λ (x : Value). Went w (value_in (object_of c.operand-object.result w) (position x))) (sym c.operand-at.ensures.is)
    ∙ ap (Went w) (value_is c.operand-object.result c.operand-at.result w ∙ sym c.value_at-v.ensures)) refl c.finish.ensures
