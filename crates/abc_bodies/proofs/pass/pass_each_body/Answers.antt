use Rattle.std.proofs.Common.{◌∙◌, arith, false, length, ◌-◌, ◌+◌}
use Rattle.std.proofs.lemmas.Option.{slice_get_within}
use Rattle.std.proofs.lemmas.Result.{err_from_is_err_and}
use Rattle.abc_varint.specs.declared.error.ReadError.TheVariants as errors
use Rattle.abc_varint.proofs.Loop.{other_err}
use Rattle.abc_bodies.proofs.Passing.{begins, entry_bytes, goes_on, fails, passed}
use Rattle.abc_bodies.proofs.pass.pass_each_body.Goals as goal

pub returns-in_err-method-clause-value : goal.returns-in_err-method-clause-value
returns-in_err-method-clause-value g c =
    let p = err_from_is_err_and c.from_residual-in_err-method.result c.from_residual-in_err-method.ensures.1 in
    let e = c.in_err-method.ensures.value in
    rw (p.1, p.2) (
      fails entry_bytes c.args.sizes.now c.args.count c.args.w.now (g.S.Source.left c.args.source.now) c.args.out.now.items length c.in_err-method.field-0.0 (c.args.count - c.loop.counter) c.loop.has_body c.loop.out.items c.pass_body.new.out.items
          c.loop.w (g.S.Source.left c.loop.source) c.pass_body.new.w (g.S.Source.left c.pass_body.new.source) (omega arith) c.loop.invariant.0 e.0,
      (λ e h. absurd (let k = c.requires.fresh in cc)),
      omega (arith, c.loop.invariant.1, e.2),
      (λ k h. let r = e.3 c.loop.invariant.0.fresh (other_err c.in_err-method.field-0.0 errors.ReadFault h) in omega (arith, c.loop.invariant.1, r)),
      (e.4.0, e.4.1 ∙ c.loop.invariant.0.ends_at),
    )

pub set-requires : goal.set-requires
set-requires g c = slice_get_within c.loop.has_body c.in_ok-method.method false c.in_ok-method.ensures.free

pub loop-preserved : goal.loop-preserved
loop-preserved g c =
    let e = c.in_ok-method.ensures in (
      rw (c.set.ensures)
          (goes_on entry_bytes c.args.sizes.now c.args.count c.args.w.now (g.S.Source.left c.args.source.now) c.args.out.now.items (c.args.count - c.loop.counter) (c.args.count - (c.loop.counter + 1)) c.loop.has_body _ _
          c.loop.w (g.S.Source.left c.loop.source) c.pass_body.new.w (g.S.Source.left c.pass_body.new.source) c.in_ok-method.method (omega arith) c.loop.invariant.0 e.value.0 e.free),
      omega (arith, e.value.2, c.loop.invariant.1),
    )

pub returns-clause-value : goal.returns-clause-value
returns-clause-value g c = (
  passed entry_bytes c.args.sizes.now c.args.count c.args.w.now (g.S.Source.left c.args.source.now) c.args.out.now.items (c.args.count - c.loop.counter) c.loop.has_body _ c.loop.w (g.S.Source.left c.loop.source)
      (omega arith) c.requires.fresh c.loop.invariant.0,
  (λ e h. absurd (let k = c.requires.fresh in cc)),
  c.loop.invariant.1,
  (λ k h. absurd cc),
  tt,
)

pub loop-init : goal.loop-init
loop-init g c = (
  begins entry_bytes c.args.sizes.now c.args.count c.args.w.now (g.S.Source.left c.args.source.now) c.args.out.now.items c.in_ok-has_body.has_body c.in_ok-has_body.ensures c.requires.fresh,
  omega arith,
)
