use Rattle.std.proofs.Common.{◌∙◌, ap, refl, sym}
use Rattle.abc_heap_values.specs.declared.values.Value.{Value}
use Rattle.abc_frames.specs.Frame.{newest}
use Rattle.abc_meaning.specs.Walking.{has_next}
use Rattle.abc_run_state.proofs.Pushing.{pushes_on}
use Rattle.abc_run_state.specs.Operands.{operand_at}
use Rattle.abc_run_state.specs.Outer.{world, setting_in}
use Rattle.abc_meaning.specs.World.{Went, see}
use Rattle.abc_run_names.proofs.Walks.{can_walk, next_is}
use Rattle.abc_run_names.proofs.walking.walk_one.Goals as goal

pub has_next-v-requires : goal.has_next-v-requires
has_next-v-requires c = can_walk c.args.linked.now c.args.s.now.arena c.operand-object.result (c.operand-object.ensures.there c.args.linked.now c.args.s.now.arena c.requires.set.frame.stack)

pub returns-clause-runs : goal.returns-clause-runs
returns-clause-runs c = λ out.
    let q = c.args.s.now.frames in
    let f = newest q in
    let w = world c.args.s.now out in
    pushes_on (setting_in c.args.linked.now out) q q c.finish.new.frames 2 (see (has_next (operand_at 1 f) (operand_at 0 f))) w w c.has_next-v.result
    (ap (λ (x : Value). Went w (has_next x (operand_at 0 f) w)) (sym c.operand-object.ensures.is) ∙ ap (λ (x : Value). Went w (has_next c.operand-object.result x w)) (sym c.operand-after.ensures.is)
    ∙ ap (Went w) (next_is c.operand-object.result c.operand-after.result w ∙ sym c.has_next-v.ensures)) refl c.finish.ensures
