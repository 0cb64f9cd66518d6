use Rattle.std.proofs.Common.{◌∙◌, arith, length, ◌-◌, ◌+◌}
use Rattle.std.proofs.lemmas.List.Elements.{All-push}
use Rattle.std.proofs.lemmas.Result.{err_from_is_err_and}
use Rattle.abc_file_types.specs.Bodies.{handler, IsHandlerWithin}
use Rattle.abc_varint.specs.declared.error.ReadError.TheVariants as errors
use Rattle.abc_varint.proofs.Loop.{goes_on, ends, other_err}
use Rattle.abc_bodies.proofs.handlers.read_each_handler.Goals as goal

pub returns-in_err-handler-clause-value : goal.returns-in_err-handler-clause-value
returns-in_err-handler-clause-value g c =
    let p = err_from_is_err_and c.from_residual.result c.from_residual.ensures.1 in
    let e = c.in_err-handler.ensures.value in
    let before = c.loop.invariant in
    rw (p.1, p.2) (
      (λ k. ends c.in_err-handler.field-0.0 (handler c.args.sizes.now c.args.starts.now) c.args.count (c.args.count - c.loop.counter) c.loop.handlers _ _ _ _ _ (omega arith) before.going (e.0 before.going.fresh)),
      (λ e h. absurd (let k = c.requires.fresh in cc)),
      omega (arith, before.later, e.2),
      (λ k h. let r = e.3 before.going.fresh (other_err c.in_err-handler.field-0.0 errors.ReadFault h) in omega (arith, before.later, r)),
      (e.4.0, e.4.1 ∙ before.going.ends_at),
    )

pub loop-preserved : goal.loop-preserved
loop-preserved g c =
    let e = c.in_ok-handler.ensures in
    let before = c.loop.invariant in
    record {
      going = rw c.in_ok-push.ensures.ok (goes_on (handler c.args.sizes.now c.args.starts.now) c.args.count (c.args.count - c.loop.counter) (c.args.count - (c.loop.counter + 1)) c.loop.handlers _ _ _ _ _ _ _ (omega arith) before.going e.value.0);
      later = omega (arith, before.later, e.value.2);
      within = rw c.in_ok-push.ensures.ok (All-push (IsHandlerWithin (length c.args.starts.now - 1)) c.loop.handlers c.in_ok-handler.handler before.within e.within);
    }
