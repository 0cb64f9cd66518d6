use Rattle.std.proofs.Common.{◌∙◌, arith, false, length, ◌-◌, ◌+◌}
use Rattle.std.proofs.lemmas.Option.{slice_get_within}
use Rattle.std.proofs.lemmas.Result.{err_from_is_err_and}
use Rattle.abc_varint.specs.declared.error.ReadError.TheVariants as errors
use Rattle.abc_varint.proofs.Loop.{other_err}
use Rattle.abc_bodies.proofs.Passing.{begins, goes_on, fails, passed}
use Rattle.abc_disasm.specs.Entries.{entry_text}
use Rattle.abc_disasm.proofs.listed_bodies.list_each_body.Goals as goal

pub returns-in_err-method : goal.returns-in_err-method
returns-in_err-method g c =
    let p = err_from_is_err_and c.from_residual-in_err-method.result c.from_residual-in_err-method.ensures.1 in
    let e = c.in_err-method.ensures.value in
    rw (p.1, p.2) (
      fails (entry_text c.args.abc.now) c.args.sizes.now c.args.count c.args.w.now (g.S.Source.left c.args.source.now) c.args.out.now.items length c.in_err-method.field-0.0 (c.args.count - c.loop.counter) c.loop.has_body c.loop.out.items c.list_body.new.out.items
          c.loop.w (g.S.Source.left c.loop.source) c.list_body.new.w (g.S.Source.left c.list_body.new.source) (omega arith) c.loop.invariant.passes e.0,
      (λ e h. absurd (let k = c.requires.fresh in cc)),
      omega (arith, c.loop.invariant.later, e.2),
      (λ k h. let r = e.3 c.loop.invariant.passes.fresh (other_err c.in_err-method.field-0.0 errors.ReadFault h) in omega (arith, c.loop.invariant.later, r)),
      (e.4.0, e.4.1 ∙ c.loop.invariant.passes.ends_at),
    )

pub set-requires : goal.set-requires
set-requires g c = slice_get_within c.loop.has_body c.in_ok-method.method false c.in_ok-method.ensures.free

pub loop-preserved : goal.loop-preserved
loop-preserved g c =
    let e = c.in_ok-method.ensures in
    record {
      passes = rw (c.set.ensures)
          (goes_on (entry_text c.args.abc.now) c.args.sizes.now c.args.count c.args.w.now (g.S.Source.left c.args.source.now) c.args.out.now.items (c.args.count - c.loop.counter) (c.args.count - (c.loop.counter + 1)) c.loop.has_body _ _
          c.loop.w (g.S.Source.left c.loop.source) c.list_body.new.w (g.S.Source.left c.list_body.new.source) c.in_ok-method.method (omega arith) c.loop.invariant.passes e.value.0 e.free);
      later = omega (arith, e.value.2, c.loop.invariant.later);
    }

pub returns : goal.returns
returns g c = (
  passed (entry_text c.args.abc.now) c.args.sizes.now c.args.count c.args.w.now (g.S.Source.left c.args.source.now) c.args.out.now.items (c.args.count - c.loop.counter) c.loop.has_body _ c.loop.w (g.S.Source.left c.loop.source)
      (omega arith) c.requires.fresh c.loop.invariant.passes,
  (λ e h. absurd (let k = c.requires.fresh in cc)),
  c.loop.invariant.later,
  (λ k h. absurd cc),
  tt,
)

pub loop-init : goal.loop-init
loop-init g c = record {
  passes = begins (entry_text c.args.abc.now) c.args.sizes.now c.args.count c.args.w.now (g.S.Source.left c.args.source.now) c.args.out.now.items c.in_ok-has_body.has_body c.in_ok-has_body.ensures c.requires.fresh;
  later = omega arith;
}
