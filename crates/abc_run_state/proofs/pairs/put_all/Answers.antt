use Rattle.std.proofs.Common.{◌≡◌, ◌∙◌, ◌-◌, length, refl, ap, arith, subst, sym}
use Rattle.std.proofs.lemmas.Result.{err_from_is_err_and}
use Rattle.abc_heap_values.specs.declared.values.Span.{Span}
use Rattle.abc_heap_store.specs.Texts.{IsText}
use Rattle.abc_frames.specs.Frame.{Frames, newest}
use Rattle.abc_meaning.specs.Newing.{set_all}
use Rattle.abc_run_state.specs.Outer.{setting_in, world}
use Rattle.abc_run_state.specs.Stops.{why}
use Rattle.abc_run_state.specs.Pairs.{pairs_at}
use Rattle.abc_run_state.proofs.Keeping.{set_stays, stays_on, stays_self}
use Rattle.abc_run_state.proofs.Paired.{put_is, put_step, put_stops, text_there}
use Rattle.abc_run_state.proofs.pairs.put_all.Goals as goal

pub loop-left-init : goal.loop-left-init
loop-left-init c = record { fewer = omega arith; stays = stays_self c.args.linked.now c.args.s.now c.requires.set; part = λ out. refl }

pub operand-named-requires : goal.operand-named-requires
operand-named-requires c =
    let e : length (newest c.loop-left.s.frames).stack ≡ length (newest c.args.s.now.frames).stack = ap (λ (q : Frames). length (newest q).stack) c.loop-left.invariant.stays.frames in
    omega (arith, e)

pub operand-v-requires : goal.operand-v-requires
operand-v-requires c =
    let e : length (newest c.loop-left.s.frames).stack ≡ length (newest c.args.s.now.frames).stack = ap (λ (q : Frames). length (newest q).stack) c.loop-left.invariant.stays.frames in
    omega (arith, e)

pub put_property-requires-clause-over : goal.put_property-requires-clause-over
put_property-requires-clause-over c = c.loop-left.invariant.stays.over

pub put_property-requires-clause-inside : goal.put_property-requires-clause-inside
put_property-requires-clause-inside c = (c.loop-left.invariant.stays.grows.objects c.args.o.0 c.requires.object).0

pub put_property-requires-clause-name : goal.put_property-requires-clause-name
put_property-requires-clause-name c =
    let l = c.args.linked.now in
    let h = c.loop-left.s.arena in
    let set = set_stays l c.args.s.now c.loop-left.s c.loop-left.invariant.stays c.requires.set in
    subst (λ (t : Span). IsText l.file.strings h t) (sym c.text_in_value-name.ensures) (text_there l h c.operand-named.result (c.operand-named.ensures.there l h set.frame.stack))

pub put_property-requires-clause-value : goal.put_property-requires-clause-value
put_property-requires-clause-value c =
    let l = c.args.linked.now in
    c.operand-v.ensures.there l c.loop-left.s.arena (set_stays l c.args.s.now c.loop-left.s c.loop-left.invariant.stays c.requires.set).frame.stack

pub loop-left-preserved : goal.loop-left-preserved
loop-left-preserved c =
    let l = c.args.linked.now in
    let n = c.loop-left.left - 1 in
    let old = c.loop-left.s in
    let stays = c.in_ok-put_property.ensures.stays in
    let vs = (newest c.args.s.now.frames).stack in
    record {
      fewer = omega (arith, c.loop-left.invariant.fewer);
      stays = stays_on l c.args.s.now old c.put_property.new.s c.loop-left.invariant.stays stays;
      part = λ out.
          c.loop-left.invariant.part out
          ∙ put_step (setting_in l out) c.args.o n c.loop-left.left vs (world old out) (world c.put_property.new.s out) (omega arith)
          (put_is (setting_in l out) c.args.o n (newest old.frames).stack vs c.text_in_value-name.result c.operand-named.result c.operand-v.result (world old out) (ap (λ (q : Frames). (newest q).stack) c.loop-left.invariant.stays.frames) c.operand-named.ensures.is c.text_in_value-name.ensures c.operand-v.ensures.is
          ∙ c.in_ok-put_property.ensures.part out);
    }

pub returns-clause-part : goal.returns-clause-part
returns-clause-part c = λ out.
    let none : c.loop-left.left ≡ 0 = omega arith in
    c.loop-left.invariant.part out ∙ ap (λ k. set_all (setting_in c.args.linked.now out) c.args.o (pairs_at k (newest c.args.s.now.frames).stack) (world c.loop-left.s out)) none

pub returns-in_err-put_property-clause-part : goal.returns-in_err-put_property-clause-part
returns-in_err-put_property-clause-part c = λ out.
    let l = c.args.linked.now in
    let n = c.loop-left.left - 1 in
    let old = c.loop-left.s in
    let vs = (newest c.args.s.now.frames).stack in
    let e = err_from_is_err_and c.from_residual.result c.from_residual.ensures.1 in
    rw (e.1, e.2) (c.loop-left.invariant.part out
    ∙ put_stops (setting_in l out) c.args.o n c.loop-left.left vs (world old out) (world c.put_property.new.s out) (why c.in_err-put_property.field-0.0) (omega arith)
    (put_is (setting_in l out) c.args.o n (newest old.frames).stack vs c.text_in_value-name.result c.operand-named.result c.operand-v.result (world old out) (ap (λ (q : Frames). (newest q).stack) c.loop-left.invariant.stays.frames) c.operand-named.ensures.is c.text_in_value-name.ensures c.operand-v.ensures.is
    ∙ c.in_err-put_property.ensures.part out))

pub returns-in_err-put_property-clause-stays : goal.returns-in_err-put_property-clause-stays
returns-in_err-put_property-clause-stays c = stays_on c.args.linked.now c.args.s.now c.loop-left.s c.put_property.new.s c.loop-left.invariant.stays c.in_err-put_property.ensures.stays
