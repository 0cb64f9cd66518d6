use Rattle.std.proofs.Common.{arith, append_assoc, refl, ◌∙◌}
use Rattle.std.proofs.Common.{sym}
use Rattle.abc_file_types.specs.Classes.{class_info}
use Rattle.abc_varint.proofs.Passing.{times_count}
use Rattle.abc_traits.proofs.pass.pass_classes.Goals as goal

pub returns-clause-value : goal.returns-clause-value
returns-clause-value g c =
    let e1 = c.in_ok-pass_times.ensures in let e2 = c.in_ok-pass_times-2.ensures in let e3 = c.in_ok-pass_counted.ensures.value in (
      (
        e1.0.0,
        e3.0.1,
        omega (arith, e1.0.2, e2.0.2, e3.0.2),
        e3.0.3 ∙ e2.0.3 ∙ e1.0.3,
        λ input is.
            let d3 = e3.0.4 input is in let d2 = e2.0.4 input d3.0 in let d1 = e1.0.4 input d2.0 in
            let x1 = d1.1 in let x2 = d2.1 in let x3 = d3.1 in (
              d1.0,
              record {
                value = (x1.value, (x2.value, x3.value));
                read = rw (x1.read, x2.read, x3.read) refl;
                bytes = rw (x3.bytes, x2.bytes, x1.bytes) (simp append_assoc);
                tells = sym (times_count c.args.count (class_info c.args.sizes.now) _ _ x2.value x2.read);
              },
            ),
      ),
      (λ e h. absurd (let k = e1.0.0 in cc)),
      omega (arith, e1.2, e2.2, e3.2),
      (λ k h. absurd cc),
      tt,
    )
