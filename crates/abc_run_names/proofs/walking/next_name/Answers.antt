use Rattle.std.proofs.Common.{◌∙◌, ap, refl, sym}
use Rattle.abc_heap_values.specs.declared.values.Value.{Value}
use Rattle.abc_heap_store.specs.Heap.{Heap}
use Rattle.abc_frames.specs.Frame.{newest}
use Rattle.abc_meaning.specs.Walking.{walked_name, position, object_of}
use Rattle.abc_run_state.proofs.Pushing.{pushes_on, pushes_stopped}
use Rattle.abc_run_state.specs.Operands.{operand_at}
use Rattle.abc_run_state.specs.Outer.{world, setting_in}
use Rattle.abc_run_state.specs.Stops.{stop_of_end, why}
use Rattle.abc_run_state.specs.Turns.{Halts, bare_newest}
use Rattle.abc_run_state.proofs.Operated.{operated_err, operated_ok}
use Rattle.abc_run_names.specs.Walking.{named_in, position_of, object_of_value as walked_in}
use Rattle.abc_meaning.specs.World.{see, ◌>>=◌}
use Rattle.abc_run_names.proofs.Walks.{can_walk, is_place, name_at_is}
use Rattle.abc_run_names.proofs.walking.next_name.Goals as goal

pub name_at-requires-clause-object : goal.name_at-requires-clause-object
name_at-requires-clause-object c = can_walk c.args.linked.now c.args.s.now.arena c.operand-object.result (c.operand-object.ensures.there c.args.linked.now c.args.s.now.arena c.requires.set.frame.stack)

pub name_at-requires-clause-at : goal.name_at-requires-clause-at
name_at-requires-clause-at c = is_place c.args.linked.now c.args.s.now.arena c.operand-at.result (c.operand-at.ensures.there c.args.linked.now c.args.s.now.arena c.requires.set.frame.stack)

pub returns-in-Ok-clause-runs : goal.returns-in-Ok-clause-runs
returns-in-Ok-clause-runs c = λ out.
    let q = c.args.s.now.frames in
    let f = newest q in
    let w = world c.args.s.now out in
    let h = c.args.s.now.arena in
    let names = λ (k : Heap). named_in k (walked_in h c.operand-object.result) (position_of c.operand-at.result) in
    pushes_on (setting_in c.args.linked.now out) q q c.finish.new.frames 2 (see (object_of (operand_at 1 f)) >>= λ ob. walked_name ob (position (operand_at 0 f))) w _ c.in-Ok.v
    (ap (λ (x : Value). walked_name (object_of x w) (position (operand_at 0 f)) w) (sym c.operand-object.ensures.is) ∙ ap (λ (x : Value). walked_name (object_of c.operand-object.result w) (position x) w) (sym c.operand-at.ensures.is)
    ∙ name_at_is c.operand-object.result c.operand-at.result w ∙ operated_ok names w c.in-Ok.v c.name_at.new.arena c.in-Ok.ensures.named) refl c.finish.ensures

pub returns-in-Err-clause-runs : goal.returns-in-Err-clause-runs
returns-in-Err-clause-runs c = λ out.
    let p = setting_in c.args.linked.now out in
    let q = c.args.s.now.frames in
    let f = newest q in
    let w = world c.args.s.now out in
    let h = c.args.s.now.arena in
    let names = λ (k : Heap). named_in k (walked_in h c.operand-object.result) (position_of c.operand-at.result) in
    pushes_stopped p q q 2 (see (object_of (operand_at 1 f)) >>= λ ob. walked_name ob (position (operand_at 0 f))) w _ (stop_of_end c.in-Err.end)
    (ap (λ (x : Value). walked_name (object_of x w) (position (operand_at 0 f)) w) (sym c.operand-object.ensures.is) ∙ ap (λ (x : Value). walked_name (object_of c.operand-object.result w) (position x) w) (sym c.operand-at.ensures.is)
    ∙ name_at_is c.operand-object.result c.operand-at.result w ∙ operated_err names w c.in-Err.end c.name_at.new.arena c.in-Err.ensures.named) refl
    ∙ ap (λ s. Halts (world (record c.args.s.now { arena = c.name_at.new.arena }) out) (bare_newest q) (why s)) (sym c.from.ensures)
