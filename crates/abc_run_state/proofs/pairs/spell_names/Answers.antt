use Rattle.std.proofs.Common.{◌≡◌, ◌∙◌, ◌-◌, ◌+◌, ◌*◌, List, length, set, refl, sym, ap, arith}
use Rattle.std.proofs.lemmas.List.{length-set}
use Rattle.std.proofs.lemmas.Result.{err_from_is_err_and}
use Rattle.abc_heap_values.specs.declared.values.Value.{Value}
use Rattle.abc_heap_values.specs.declared.values.Value.TheVariants.{Text}
use Rattle.abc_frames.specs.Frame.{Frames, newest}
use Rattle.abc_run_state.specs.Outer.{setting_in, world}
use Rattle.abc_run_state.specs.Stops.{why}
use Rattle.abc_meaning.specs.Ops.{spells}
use Rattle.abc_run_state.specs.Pairs.{pair_texts}
use Rattle.abc_run_state.proofs.Keeping.{operands_on, operands_same, same_operands, set_operand_set, set_stays}
use Rattle.abc_run_state.proofs.Paired.{spelled_step, spelled_stops}
use Rattle.abc_run_state.proofs.pairs.spell_names.Goals as goal

pub loop-left-init : goal.loop-left-init
loop-left-init g c = record { fewer = omega arith; set = c.requires.0; part = refl; frames = same_operands c.args.s.now.frames c.requires.1.0; long = refl; given = refl }

pub spell-requires : goal.spell-requires
spell-requires g c = (c.loop-left.invariant.set.over, (c.operand-name.ensures.there c.args.linked.now c.loop-left.s.arena c.loop-left.invariant.set.frame.stack))

pub set_operand-requires : goal.set_operand-requires
set_operand-requires g c =
    let e : length (newest c.spell.new.s.frames).stack ≡ length (newest c.loop-left.s.frames).stack = ap (λ (q : Frames). length (newest q).stack) c.in_ok-text.ensures.stays.frames in
    omega (arith, e)

pub loop-left-preserved : goal.loop-left-preserved
loop-left-preserved g c =
    let l = c.args.linked.now in
    let p = setting_in l g.out in
    let old = c.loop-left.s in
    let mid = c.spell.new.s in
    let n = c.loop-left.left - 1 in
    let t = c.in_ok-text.text in
    let stays = c.in_ok-text.ensures.stays in
    let next = c.set_operand.ensures in
    let vs = (newest old.frames).stack in
    let stack : (newest c.set_operand.new.self).stack ≡ set vs (2 * n + 1) (Text t) = ap (λ (q : Frames). (newest q).stack) next ∙ ap (λ (q : Frames). set (newest q).stack (2 * n + 1) (Text t)) stays.frames in
    record {
      fewer = omega (arith, c.loop-left.invariant.fewer);
      set = set_operand_set l old mid c.set_operand.new.self (2 * n + 1) (Text t) stays next c.in_ok-text.ensures.there c.loop-left.invariant.set;
      part =
          c.loop-left.invariant.part
          ∙ spelled_step p n c.loop-left.left vs (world old g.out) (world mid g.out) t (omega arith) (ap (λ (v : Value). spells p v (world old g.out)) (sym c.operand-name.ensures.is) ∙ c.in_ok-text.ensures.part)
          ∙ ap (λ ws. pair_texts p n ws (world mid g.out)) (sym stack);
      frames = operands_on c.args.s.now.frames old.frames mid.frames c.set_operand.new.self (2 * n + 1) (Text t) c.loop-left.invariant.frames stays.frames next;
      given = stays.given ∙ c.loop-left.invariant.given;
      long = ap (λ (ws : List Value). length ws) stack ∙ length-set vs (2 * n + 1) (Text t) ∙ c.loop-left.invariant.long;
    }

pub returns-clause-part : goal.returns-clause-part
returns-clause-part g c =
    let p = setting_in c.args.linked.now g.out in
    let none : c.loop-left.left ≡ 0 = omega arith in
    c.loop-left.invariant.part ∙ ap (λ k. pair_texts p k (newest c.loop-left.s.frames).stack (world c.loop-left.s g.out)) none

pub returns-in_err-text-clause-part : goal.returns-in_err-text-clause-part
returns-in_err-text-clause-part g c =
    let p = setting_in c.args.linked.now g.out in
    let old = c.loop-left.s in
    let e = err_from_is_err_and c.from_residual.result c.from_residual.ensures.1 in
    rw (e.1, e.2) (c.loop-left.invariant.part ∙ spelled_stops p (c.loop-left.left - 1) c.loop-left.left (newest old.frames).stack (world old g.out) (world c.spell.new.s g.out) (why c.in_err-text.field-0.0) (omega arith)
    (ap (λ (v : Value). spells p v (world old g.out)) (sym c.operand-name.ensures.is) ∙ c.in_err-text.ensures.part))

pub returns-in_err-text-clause-frames : goal.returns-in_err-text-clause-frames
returns-in_err-text-clause-frames g c = operands_same c.args.s.now.frames c.loop-left.s.frames c.spell.new.s.frames c.loop-left.invariant.frames c.in_err-text.ensures.stays.frames

pub returns-in_err-text-clause-long : goal.returns-in_err-text-clause-long
returns-in_err-text-clause-long g c = ap (λ (q : Frames). length (newest q).stack) c.in_err-text.ensures.stays.frames ∙ c.loop-left.invariant.long

pub returns-in_err-text-clause-set : goal.returns-in_err-text-clause-set
returns-in_err-text-clause-set g c = set_stays c.args.linked.now c.loop-left.s c.spell.new.s c.in_err-text.ensures.stays c.loop-left.invariant.set

pub returns-in_err-text-clause-given : goal.returns-in_err-text-clause-given
returns-in_err-text-clause-given g c = c.in_err-text.ensures.stays.given ∙ c.loop-left.invariant.given
