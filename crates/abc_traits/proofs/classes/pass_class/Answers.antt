use Rattle.std.proofs.Common.{arith, append_assoc, refl, ◌∙◌}
use Rattle.abc_file_types.specs.Classes.{class_info, class_bytes}
use Rattle.abc_traits.proofs.classes.pass_class.Goals as goal

pub returns : goal.returns
unfolding class_info class_bytes
returns g c =
    let e1 = c.in_ok-pass.ensures in let e2 = c.in_ok-pass_counted.ensures.value in (
      (
        e1.0.0,
        e2.0.1,
        omega (arith, e1.0.2, e2.0.2),
        e2.0.3 ∙ e1.0.3,
        λ input is.
            let d2 = e2.0.4 input is in let d1 = e1.0.4 input d2.0 in
            let x1 = d1.1 in let x2 = d2.1 in (
              d1.0,
              record {
                value = record { cinit = x1.value; traits = x2.value };
                read = rw (x1.read, x2.read) refl;
                bytes = rw (x2.bytes, x1.bytes) (simp append_assoc);
                tells = refl;
              },
            ),
      ),
      (λ e h. absurd (let k = e1.0.0 in cc)),
      omega (arith, e1.2, e2.2),
      (λ k h. absurd cc),
      tt,
    )
