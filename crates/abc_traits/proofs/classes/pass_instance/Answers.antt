use Rattle.std.proofs.Common.{arith, append_assoc, refl, ◌∙◌}
use Rattle.abc_file_types.specs.Classes.{instance, instance_bytes}
use Rattle.abc_traits.proofs.classes.pass_instance.Goals as goal

pub returns : goal.returns
unfolding instance instance_bytes
returns g c =
    let e1 = c.in_ok-pass.ensures in let e2 = c.in_ok-pass-2.ensures in let e3 = c.in_ok-flags.ensures.value.0 in let e4 = c.in_ok-pass_protected_if.ensures in let e5 = c.in_ok-pass_counted.ensures.value in let e6 = c.in_ok-pass-3.ensures in let e7 = c.in_ok-pass_counted-2.ensures.value in (
      (
        e1.0.0,
        e7.0.1,
        omega (arith, e1.0.2, e2.0.2, e3.0.2, e4.0.2, e5.0.2, e6.0.2, e7.0.2),
        e7.0.3 ∙ e6.0.3 ∙ e5.0.3 ∙ e4.0.3 ∙ e3.0.3 ∙ e2.0.3 ∙ e1.0.3,
        λ input is.
            let d7 = e7.0.4 input is in let d6 = e6.0.4 input d7.0 in let d5 = e5.0.4 input d6.0 in let d4 = e4.0.4 input d5.0 in
            let d3 = e3.0.4 input d4.0 in let d2 = e2.0.4 input d3.0 in let d1 = e1.0.4 input d2.0 in
            let x1 = d1.1 in let x2 = d2.1 in let x4 = d4.1 in let x5 = d5.1 in let x6 = d6.1 in let x7 = d7.1 in (
              d1.0,
              record {
                value = record { name = x1.value; super_name = x2.value; flags = c.in_ok-flags.flags; protected_ns = x4.value; interfaces = x5.value; iinit = x6.value; traits = x7.value };
                read = rw (x1.read, x2.read, d3.1, ← c.has_flag-has_protected.ensures, x4.read, x5.read, x6.read, x7.read) refl;
                bytes = rw (x7.bytes, x6.bytes, x5.bytes, x4.bytes, c.in_ok-put_u8.ensures, x2.bytes, x1.bytes) (simp append_assoc);
                tells = refl;
              },
            ),
      ),
      (λ e h. absurd (let k = e1.0.0 in cc)),
      omega (arith, e1.2, e2.2, e3.2, e4.2, e5.2, e6.2, e7.2),
      (λ k h. absurd cc),
      tt,
    )
