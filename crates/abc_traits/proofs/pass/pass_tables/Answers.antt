use Rattle.std.proofs.Common.{arith, append_assoc, refl, ◌∙◌}
use Rattle.std.proofs.Common.{◌≡◌, length, sym}
use Rattle.abc_traits.specs.Definitions.{tables}
use Rattle.abc_traits.proofs.pass.pass_tables.Goals as goal

pub returns : goal.returns
unfolding tables
returns g c =
    let e1 = c.in_ok-methods.ensures.value in let e2 = c.in_ok-metadata.ensures.value in let e3 = c.in_ok-count.ensures.value.0 in let e4 = c.in_ok-pass_classes.ensures.value in (
      (
        e1.0.0,
        e4.0.1,
        omega (arith, e1.0.2, e2.0.2, e3.0.2, e4.0.2),
        e4.0.3 ∙ e3.0.3 ∙ e2.0.3 ∙ e1.0.3,
        λ input is.
            let d4 = e4.0.4 input is in let d3 = e3.0.4 input d4.0 in let d2 = e2.0.4 input d3.0 in let d1 = e1.0.4 input d2.0 in
            let x1 = d1.1 in let x2 = d2.1 in let x4 = d4.1 in let classes : length x4.value.1.0 ≡ c.in_ok-count.count = sym x4.tells ∙ c.in_ok-pass_classes.ensures.count in (
              d1.0,
              record {
                value = record { methods = x1.value; metadata = x2.value; instances = x4.value.0; classes = x4.value.1.0; scripts = x4.value.1.1 };
                read = rw (x1.read, ← x1.tells, x2.read, ← x2.tells, d3.1, x4.read) refl;
                bytes = rw (x4.bytes, c.in_ok-put_u30.ensures, x2.bytes, x1.bytes, classes) (simp append_assoc);
                tells = rw (x1.tells, x2.tells, classes) refl;
              },
            ),
      ),
      (λ e h. absurd (let k = e1.0.0 in cc)),
      omega (arith, e1.2, e2.2, e3.2, e4.2),
      (λ k h. absurd cc),
      tt,
    )
