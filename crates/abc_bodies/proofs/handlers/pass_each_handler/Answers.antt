use Rattle.std.proofs.Common.{◌∙◌, arith, ◌-◌, ◌+◌}
use Rattle.std.proofs.lemmas.Result.{err_from_is_err_and}
use Rattle.abc_instr.specs.Marks.{mark_at}
use Rattle.abc_bodies.specs.Moved.{moved_bytes, moved_handler}
use Rattle.abc_varint.specs.declared.error.ReadError.TheVariants as errors
use Rattle.abc_varint.proofs.Loop.{other_err}
use Rattle.abc_varint.proofs.Passing.{goes_on, ends}
use Rattle.abc_bodies.proofs.handlers.pass_each_handler.Goals as goal

pub returns-in_err-pass_handler : goal.returns-in_err-pass_handler
returns-in_err-pass_handler g c =
    let p = err_from_is_err_and c.from_residual.result c.from_residual.ensures.1 in
    let e = c.in_err-pass_handler.ensures in
    rw (p.1, p.2) (
      (λ k. ends c.in_err-pass_handler.field-0.0 (moved_handler c.args.sizes.now (mark_at c.args.marks.now)) moved_bytes c.args.count (c.args.count - c.loop.counter) _ _ _ _ _ _ _ (omega arith) c.loop.invariant.0 (e.0 c.loop.invariant.0.fresh)),
      (λ e h. absurd (let k = c.requires.fresh in cc)),
      omega (arith, c.loop.invariant.1, e.2),
      (λ k h. let r = e.3 c.loop.invariant.0.fresh (other_err c.in_err-pass_handler.field-0.0 errors.ReadFault h) in omega (arith, c.loop.invariant.1, r)),
      (e.4.0, e.4.1 ∙ c.loop.invariant.0.ends_at),
    )

pub loop-preserved : goal.loop-preserved
loop-preserved g c =
    let e = c.in_ok-pass_handler.ensures in (
      goes_on (moved_handler c.args.sizes.now (mark_at c.args.marks.now)) moved_bytes c.args.count (c.args.count - c.loop.counter) (c.args.count - (c.loop.counter + 1)) _ _ _ _ _ _ _ _ _ (omega arith) c.loop.invariant.0 e.0,
      omega (arith, c.loop.invariant.1, e.2),
    )
