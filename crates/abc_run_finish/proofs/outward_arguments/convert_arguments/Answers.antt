use Rattle.std.proofs.Common.{◌≡◌, ◌∙◌, ◌-◌, List, length, set, refl, sym, ap, arith}
use Rattle.std.proofs.lemmas.List.{length-set}
use Rattle.std.proofs.lemmas.Result.{err_from_is_err_and}
use Rattle.abc_heap_values.specs.declared.values.Value.{Value}
use Rattle.abc_frames.specs.Frame.{Frames, newest}
use Rattle.abc_run_state.specs.Outer.{setting_in, world}
use Rattle.abc_run_state.specs.Stops.{why}
use Rattle.abc_meaning.specs.Ops.{converts}
use Rattle.abc_run_state.proofs.Keeping.{operands_on, operands_same, same_operands, set_operand_set, set_stays}
use Rattle.abc_run_finish.specs.Turned.{turned_at}
use Rattle.abc_run_finish.proofs.Turning.{turned_step, turned_stops}
use Rattle.abc_run_finish.proofs.outward_arguments.convert_arguments.Goals as goal

pub loop-left-init : goal.loop-left-init
loop-left-init g c = record { fewer = omega arith; set = c.requires.0; part = refl; frames = same_operands c.args.s.now.frames c.requires.1.0; long = refl; limit = refl }

pub convert-requires : goal.convert-requires
convert-requires g c = (c.loop-left.invariant.set.over, (c.operand-v.ensures.there c.args.linked.now c.loop-left.s.arena c.loop-left.invariant.set.frame.stack))

pub set_operand-requires : goal.set_operand-requires
set_operand-requires g c =
    let e : length (newest c.convert.new.s.frames).stack ≡ length (newest c.loop-left.s.frames).stack = ap (λ (q : Frames). length (newest q).stack) c.in_ok-made.ensures.stays.frames in
    omega (arith, e)

pub loop-left-preserved : goal.loop-left-preserved
loop-left-preserved g c =
    let l = c.args.linked.now in
    let p = setting_in l g.out in
    let f = converts p c.args.to in
    let old = c.loop-left.s in
    let mid = c.convert.new.s in
    let n = c.loop-left.left - 1 in
    let v = c.in_ok-made.made in
    let stays = c.in_ok-made.ensures.stays in
    let next = c.set_operand.ensures in
    let vs = (newest old.frames).stack in
    let stack : (newest c.set_operand.new.self).stack ≡ set vs n v = ap (λ (q : Frames). (newest q).stack) next ∙ ap (λ (q : Frames). set (newest q).stack n v) stays.frames in
    record {
      fewer = omega (arith, c.loop-left.invariant.fewer);
      set = set_operand_set l old mid c.set_operand.new.self n v stays next c.in_ok-made.ensures.there c.loop-left.invariant.set;
      part =
          c.loop-left.invariant.part
          ∙ turned_step f n c.loop-left.left vs (world old g.out) (world mid g.out) v (omega arith) (ap (λ (x : Value). f x (world old g.out)) (sym c.operand-v.ensures.is) ∙ c.in_ok-made.ensures.part)
          ∙ ap (λ ws. turned_at f n ws (world mid g.out)) (sym stack);
      frames = operands_on c.args.s.now.frames old.frames mid.frames c.set_operand.new.self n v c.loop-left.invariant.frames stays.frames next;
      long = ap (λ (ws : List Value). length ws) stack ∙ length-set vs n v ∙ c.loop-left.invariant.long;
      limit = ap (λ x. x.limit) stays.given ∙ c.loop-left.invariant.limit;
    }

pub returns-clause-part : goal.returns-clause-part
returns-clause-part g c =
    let p = setting_in c.args.linked.now g.out in
    let none : c.loop-left.left ≡ 0 = omega arith in
    c.loop-left.invariant.part ∙ ap (λ k. turned_at (converts p c.args.to) k (newest c.loop-left.s.frames).stack (world c.loop-left.s g.out)) none

pub returns-in_err-made-clause-part : goal.returns-in_err-made-clause-part
returns-in_err-made-clause-part g c =
    let p = setting_in c.args.linked.now g.out in
    let f = converts p c.args.to in
    let old = c.loop-left.s in
    let e = err_from_is_err_and c.from_residual.result c.from_residual.ensures.1 in
    rw (e.1, e.2) (c.loop-left.invariant.part ∙ turned_stops f (c.loop-left.left - 1) c.loop-left.left (newest old.frames).stack (world old g.out) (world c.convert.new.s g.out) (why c.in_err-made.field-0.0) (omega arith)
    (ap (λ (x : Value). f x (world old g.out)) (sym c.operand-v.ensures.is) ∙ c.in_err-made.ensures.part))

pub returns-in_err-made-clause-frames : goal.returns-in_err-made-clause-frames
returns-in_err-made-clause-frames g c = operands_same c.args.s.now.frames c.loop-left.s.frames c.convert.new.s.frames c.loop-left.invariant.frames c.in_err-made.ensures.stays.frames

pub returns-in_err-made-clause-set : goal.returns-in_err-made-clause-set
returns-in_err-made-clause-set g c = set_stays c.args.linked.now c.loop-left.s c.convert.new.s c.in_err-made.ensures.stays c.loop-left.invariant.set
