use Rattle.std.proofs.Common.{◌∙◌, arith}
use Rattle.std.proofs.lemmas.Result.{err_from_is_err_and}
use Rattle.abc_varint.specs.declared.error.ReadError.TheVariants as errors
use Rattle.abc_varint.proofs.Loop.{other_err}
use Rattle.abc_bodies.proofs.Rest.{code_fails, handlers_fail, traits_fail, rest_passes}
use Rattle.abc_bodies.proofs.pass.pass_rest.Goals as goal

pub returns-in_err-pass_code : goal.returns-in_err-pass_code
returns-in_err-pass_code g c =
    let p = err_from_is_err_and c.from_residual.result c.from_residual.ensures.1 in
    let e = c.in_err-pass_code.field-0.0 in
    let v = c.in_err-pass_code.ensures in
    rw (p.1, p.2) ((λ k. let f = v.0 k in (f.0, code_fails e c.args.sizes.now _ f.1)), (λ f h. let k = v.1 f h in (other_err e f k.0, k.1, k.2)), v.2, (λ k h. v.3 k (other_err e errors.ReadFault h)), v.4)

pub returns-in_err-pass_handlers : goal.returns-in_err-pass_handlers
returns-in_err-pass_handlers g c =
    let p = err_from_is_err_and c.from_residual-in_err-pass_handlers.result c.from_residual-in_err-pass_handlers.ensures.1 in
    let e = c.in_err-pass_handlers.field-0.0 in
    let e1 = c.in_ok-pass_code.ensures in
    let v = c.in_err-pass_handlers.ensures in
    rw (p.1, p.2) (
      (λ k. handlers_fail c.args.sizes.now _ _ _ _ _ _ _ e1.0 e _ (v.0 e1.0.1)),
      (λ f h. absurd (let k = e1.0.0 in cc)),
      omega (arith, e1.2, v.2),
      (λ k h. let r = v.3 e1.0.1 (other_err e errors.ReadFault h) in omega (arith, e1.2, r)),
      (v.4.0, v.4.1 ∙ e1.0.3),
    )

pub returns-in_err-pass_counted : goal.returns-in_err-pass_counted
returns-in_err-pass_counted g c =
    let p = err_from_is_err_and c.from_residual-in_err-pass_counted.result c.from_residual-in_err-pass_counted.ensures.1 in
    let e = c.in_err-pass_counted.field-0.0 in
    let e1 = c.in_ok-pass_code.ensures in
    let e2 = c.in_ok-pass_handlers.ensures in
    let v = c.in_err-pass_counted.ensures.value in
    rw (p.1, p.2) (
      (λ k. traits_fail c.args.sizes.now _ _ _ _ _ _ _ e1.0 _ _ _ _ e2.0 e _ (v.0 e2.0.1)),
      (λ f h. absurd (let k = e1.0.0 in cc)),
      omega (arith, e1.2, e2.2, v.2),
      (λ k h. let r = v.3 e2.0.1 (other_err e errors.ReadFault h) in omega (arith, e1.2, e2.2, r)),
      (v.4.0, v.4.1 ∙ e2.0.3 ∙ e1.0.3),
    )

pub returns : goal.returns
returns g c =
    let e1 = c.in_ok-pass_code.ensures in
    let e2 = c.in_ok-pass_handlers.ensures in
    let e3 = c.in_ok-pass_counted.ensures.value in (
      rest_passes c.args.sizes.now _ _ _ _ _ _ _ e1.0 _ _ _ _ e2.0 _ _ _ _ e3.0,
      (λ e h. absurd (let k = e1.0.0 in cc)),
      omega (arith, e1.2, e2.2, e3.2),
      (λ k h. absurd cc),
      tt,
    )
