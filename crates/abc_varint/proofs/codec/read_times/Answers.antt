use Rattle.std.proofs.Common.{arith, length-append, ◌∙◌, ◌-◌, ◌+◌, ◌∷◌, []}
use Rattle.std.proofs.lemmas.Result.{err_from_is_err_and}
use Rattle.abc_varint.specs.declared.error.ReadError.TheVariants as errors
use Rattle.abc_varint.proofs.Loop.{goes_on, ends, other_err}
use Rattle.abc_varint.proofs.codec.read_times.Goals as goal

pub returns-in_err-item-clause-value : goal.returns-in_err-item-clause-value
returns-in_err-item-clause-value g c =
    let p = err_from_is_err_and c.from_residual.result c.from_residual.ensures.1 in
    let e = c.in_err-item.ensures in
    rw (p.1, p.2) (
      (λ k. ends c.in_err-item.field-0.0 (g.C.Codec.part c.args.codec.now) c.args.count (c.args.count - c.loop.counter) c.loop.items _ _ _ _ _ (omega arith) c.loop.invariant.0 (e.0 c.loop.invariant.0.fresh)),
      (λ e h. absurd (let k = c.requires in cc)),
      omega (arith, c.loop.invariant.1, e.2),
      (λ k h. let r = e.3 c.loop.invariant.0.fresh (other_err c.in_err-item.field-0.0 errors.ReadFault h) in omega (arith, c.loop.invariant.1, r)),
      (e.4.0, e.4.1 ∙ c.loop.invariant.0.ends_at),
    )

pub loop-preserved : goal.loop-preserved
loop-preserved g c =
    let e = c.in_ok-item.ensures in (
      rw c.in_ok-push.ensures.ok (goes_on (g.C.Codec.part c.args.codec.now) c.args.count (c.args.count - c.loop.counter) (c.args.count - (c.loop.counter + 1)) c.loop.items _ _ _ _ _ _ _ (omega arith) c.loop.invariant.0 e.0),
      omega (arith, e.2),
      rw c.in_ok-push.ensures.ok (omega (arith, length-append c.loop.items (c.in_ok-item.item ∷ []))),
    )
