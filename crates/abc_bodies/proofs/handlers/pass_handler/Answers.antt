use Rattle.std.proofs.Common.{arith, append_assoc, refl, ◌∙◌}
use Rattle.abc_bodies.specs.Moved.{moved_bytes, moved_handler}
use Rattle.abc_bodies.proofs.handlers.pass_handler.Goals as goal

pub returns : goal.returns
unfolding moved_handler moved_bytes
returns g c =
    let e1 = c.in_ok-pass_place.ensures in let e2 = c.in_ok-pass_place-2.ensures in let e3 = c.in_ok-pass_place-3.ensures in let e4 = c.in_ok-pass.ensures in let e5 = c.in_ok-pass-2.ensures in (
      (
        e1.0.0,
        e5.0.1,
        omega (arith, e1.0.2, e2.0.2, e3.0.2, e4.0.2, e5.0.2),
        e5.0.3 ∙ e4.0.3 ∙ e3.0.3 ∙ e2.0.3 ∙ e1.0.3,
        λ input is.
            let d5 = e5.0.4 input is in let d4 = e4.0.4 input d5.0 in let d3 = e3.0.4 input d4.0 in let d2 = e2.0.4 input d3.0 in
            let d1 = e1.0.4 input d2.0 in
            let x1 = d1.1 in let x2 = d2.1 in let x3 = d3.1 in let x4 = d4.1 in let x5 = d5.1 in (
              d1.0,
              record {
                value = record { from = x1.value; to = x2.value; target = x3.value; exc_type = x4.value; var_name = x5.value };
                read = rw (x1.read, x2.read, x3.read, x4.read, x5.read) refl;
                bytes = rw (x5.bytes, x4.bytes, x3.bytes, x2.bytes, x1.bytes) (simp append_assoc);
                tells = refl;
              },
            ),
      ),
      (λ e h. absurd (let k = e1.0.0 in cc)),
      omega (arith, e1.2, e2.2, e3.2, e4.2, e5.2),
      (λ k h. absurd cc),
      tt,
    )
