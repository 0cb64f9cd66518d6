use Rattle.std.proofs.Common.{arith, append_assoc, refl, ◌∙◌}
use Rattle.abc_file_types.specs.Pools.{pools, pools_bytes, namespace_set, with_pools}
use Rattle.abc_pools.proofs.pass.pass_pools.Goals as goal

pub returns : goal.returns
unfolding pools pools_bytes namespace_set
returns g c =
    let e1 = c.in_ok-ints.ensures.value in let e2 = c.in_ok-uints.ensures.value in let e3 = c.in_ok-doubles.ensures.value in
    let e4 = c.in_ok-strings.ensures.value in let e5 = c.in_ok-namespaces.ensures.value in let e6 = c.in_ok-sets.ensures.value in
    let e7 = c.in_ok-names.ensures in (
      (
        e1.0.0,
        e7.0.1,
        omega (arith, e1.0.2, e2.0.2, e3.0.2, e4.0.2, e5.0.2, e6.0.2, e7.0.2),
        e7.0.3 ∙ e6.0.3 ∙ e5.0.3 ∙ e4.0.3 ∙ e3.0.3 ∙ e2.0.3 ∙ e1.0.3,
        λ input is.
            let d7 = e7.0.4 input is in let d6 = e6.0.4 input d7.0 in let d5 = e5.0.4 input d6.0 in let d4 = e4.0.4 input d5.0 in
            let d3 = e3.0.4 input d4.0 in let d2 = e2.0.4 input d3.0 in let d1 = e1.0.4 input d2.0 in
            let x1 = d1.1 in let x2 = d2.1 in let x3 = d3.1 in let x4 = d4.1 in let x5 = d5.1 in let x6 = d6.1 in let x7 = d7.1 in (
              d1.0,
              record {
                value = with_pools (x1.value, (x2.value, (x3.value, (x4.value, (x5.value, (x6.value, x7.value))))));
                read = rw (x1.read, x2.read, x3.read, x4.read, ← x4.tells, x5.read, ← x5.tells, x6.read, ← x6.tells, x7.read) refl;
                bytes = x7.bytes ∙ rw (x6.bytes, x5.bytes, x4.bytes, x3.bytes, x2.bytes, x1.bytes) (simp append_assoc);
                tells = rw (x1.tells, x2.tells, x3.tells, x4.tells, x5.tells, x6.tells, x7.tells) refl;
              },
            ),
      ),
      (λ e h. absurd (let k = e1.0.0 in cc)),
      omega (arith, e1.2, e2.2, e3.2, e4.2, e5.2, e6.2, e7.2),
      (λ k h. absurd cc),
      tt,
    )
