use Rattle.std.proofs.Common.{arith, map, refl, ◌∙◌}
use Rattle.abc_file_types.specs.Files.{file_read}
use Rattle.abc_bodies.proofs.Passing.{filled as bodies_filled}
use Rattle.std.proofs.lemmas.Result.{err_from_is_err_and}
use Rattle.abc_varint.specs.declared.error.ReadError.TheVariants as errors
use Rattle.abc_varint.specs.Reads.{known_input}
use Rattle.abc_varint.proofs.Inputs.{known_is}
use Rattle.abc_varint.proofs.Loop.{other_err}
use Rattle.abc_file.proofs.Passing.{bodies_fail, definitions_fail, joined, pools_stay}
use Rattle.abc_file.proofs.canon.pass_file.Goals as goal

pub returns : goal.returns
unfolding file_read
returns g c =
    let e1 = c.in_ok-pass_version.ensures in let e2 = c.in_ok-pools.ensures in let e4 = c.in_ok-pass_bodies.ensures in
    let w = c.pass_pools.new.w in let s = g.S.Source.left c.pass_pools.new.source in
    let some = (e2.0.4 (known_input w s) (known_is w s)).1 in
    let e3 = c.in_ok-sizes.ensures some.value some.tells in (
      (
        e1.0.0,
        e4.0.1,
        omega (arith, e1.0.2, e2.0.2, e3.0.2, e4.0.2),
        e4.0.3 ∙ e3.0.3 ∙ e2.0.3 ∙ e1.0.3,
        λ input is.
            let d4 = e4.0.4 input is in let d2 = e2.0.4 input (e3.0.4 input d4.0).0 in let d1 = e1.0.4 input d2.0 in
            let x1 = d1.1 in let x2 = d2.1 in let x4 = d4.1 in
            let d3 = (c.in_ok-sizes.ensures x2.value x2.tells).0.4 input d4.0 in let x3 = d3.1 in (
              d1.0,
              record {
                value = (record x3.value { bodies = map (λ y. y.0) x4.value }, map (λ y. y.1) x4.value);
                read = rw (x1.read, x2.read, x3.read, bodies_filled x3.value c.in_ok-sizes.sizes _ x3.tells, x4.read) refl;
                bytes = joined x2.value x3.value (map (λ y. y.0) x4.value) _ _ _ _ _ (pools_stay x2.value x3.value _ _ x3.read) x1.bytes x2.bytes x3.bytes x4.bytes;
                tells = refl;
              },
            ),
      ),
      (λ e h. absurd (let k = e1.0.0 in cc)),
      omega (arith, e1.2, e2.2, e3.2, e4.2),
      (λ k h. absurd cc),
      tt,
    )

pub returns-in_err-sizes : goal.returns-in_err-sizes
returns-in_err-sizes g c =
    let p = err_from_is_err_and c.from_residual-in_err-sizes.result c.from_residual-in_err-sizes.ensures.1 in
    let e1 = c.in_ok-pass_version.ensures in let e2 = c.in_ok-pools.ensures in
    let w = c.pass_pools.new.w in let s = g.S.Source.left c.pass_pools.new.source in
    let some = (e2.0.4 (known_input w s) (known_is w s)).1 in
    let e3 = c.in_err-sizes.ensures some.value some.tells in
    rw (p.1, p.2) (
      (λ k.
          let input = known_input c.pass_definitions.new.w (g.S.Source.left c.pass_definitions.new.source) in
          let d2 = e2.0.4 input (e3.0 e2.0.1).0 in let d1 = e1.0.4 input d2.0 in let x1 = d1.1 in let x2 = d2.1 in
          let f = (c.in_err-sizes.ensures x2.value x2.tells).0 e2.0.1 in
          (d1.0, definitions_fail c.in_err-sizes.field-0.0 _ _ _ x1.value x2.value x1.read x2.read f.1)),
      (λ e h. absurd (let k = e1.0.0 in cc)),
      omega (arith, e1.2, e2.2, e3.2),
      (λ k h. let r = e3.3 e2.0.1 (other_err c.in_err-sizes.field-0.0 errors.ReadFault h) in omega (arith, e1.2, e2.2, r)),
      (e3.4.0, e3.4.1 ∙ e2.0.3 ∙ e1.0.3),
    )

pub returns-in_err-pass_bodies : goal.returns-in_err-pass_bodies
returns-in_err-pass_bodies g c =
    let p = err_from_is_err_and c.from_residual-in_err-pass_bodies.result c.from_residual-in_err-pass_bodies.ensures.1 in
    let e1 = c.in_ok-pass_version.ensures in let e2 = c.in_ok-pools.ensures in let e4 = c.in_err-pass_bodies.ensures in
    let w = c.pass_pools.new.w in let s = g.S.Source.left c.pass_pools.new.source in
    let some = (e2.0.4 (known_input w s) (known_is w s)).1 in
    let e3 = c.in_ok-sizes.ensures some.value some.tells in
    rw (p.1, p.2) (
      (λ k.
          let f = e4.0 e3.0.1 in let input = known_input c.pass_bodies.new.w (g.S.Source.left c.pass_bodies.new.source) in
          let d2 = e2.0.4 input (e3.0.4 input f.0).0 in let d1 = e1.0.4 input d2.0 in let x1 = d1.1 in let x2 = d2.1 in
          let x3 = ((c.in_ok-sizes.ensures x2.value x2.tells).0.4 input f.0).1 in
          (d1.0, bodies_fail c.in_err-pass_bodies.field-0.0 _ _ _ _ x1.value x2.value x3.value c.in_ok-sizes.sizes x1.read x2.read x3.read x3.tells f.1)),
      (λ e h. absurd (let k = e1.0.0 in cc)),
      omega (arith, e1.2, e2.2, e3.2, e4.2),
      (λ k h. let r = e4.3 e3.0.1 (other_err c.in_err-pass_bodies.field-0.0 errors.ReadFault h) in omega (arith, e1.2, e2.2, e3.2, r)),
      (e4.4.0, e4.4.1 ∙ e3.0.3 ∙ e2.0.3 ∙ e1.0.3),
    )
