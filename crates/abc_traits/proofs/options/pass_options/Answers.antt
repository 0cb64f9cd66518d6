use Rattle.std.proofs.Common.{arith, append_assoc, refl, ◌∙◌}
use Rattle.std.proofs.Common.{◌≡◌, length}
use Rattle.abc_file_types.specs.Canonical.{counted_bytes}
use Rattle.abc_file_types.specs.Methods.{options, option_value}
use Rattle.abc_varint.proofs.Passing.{times_count}
use Rattle.abc_traits.proofs.options.pass_options.Goals as goal

pub returns : goal.returns
unfolding options counted_bytes
returns g c =
    let e1 = c.in_ok-count.ensures in let e2 = c.in_ok-pass_times.ensures in (
      (
        e1.0.0,
        e2.0.1,
        omega (arith, e1.0.2, e2.0.2),
        e2.0.3 ∙ e1.0.3,
        λ input is.
            let d2 = e2.0.4 input is in let d1 = e1.0.4 input d2.0 in
            let x2 = d2.1 in let count : length x2.value ≡ c.in_ok-count.count = times_count c.in_ok-count.count (option_value c.args.sizes.now) _ _ x2.value x2.read in (
              d1.0,
              record {
                value = x2.value;
                read = rw (d1.1, x2.read) refl;
                bytes = rw (x2.bytes, c.in_ok-put_u30.ensures, count) (simp append_assoc);
                tells = refl;
              },
            ),
      ),
      (λ e h. absurd (let k = e1.0.0 in cc)),
      omega (arith, e1.2, e2.2),
      (λ k h. absurd cc),
      tt,
    )
