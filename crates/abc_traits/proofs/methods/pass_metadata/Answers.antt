use Rattle.std.proofs.Common.{arith, append_assoc, refl, ◌∙◌}
use Rattle.std.proofs.Common.{◌≡◌, ◌*◌, ◌/◌, length}
use Rattle.abc_file_types.specs.Numbers.{pool_index}
use Rattle.abc_file_types.specs.Methods.{metadata, metadata_bytes}
use Rattle.abc_varint.proofs.Passing.{times_count}
use Rattle.abc_traits.proofs.methods.pass_metadata.Goals as goal

pub returns : goal.returns
unfolding metadata metadata_bytes
returns g c =
    let e1 = c.in_ok-pass.ensures in let e2 = c.in_ok-count.ensures.value.0 in let e3 = c.in_ok-pass_times.ensures in (
      (
        e1.0.0,
        e3.0.1,
        omega (arith, e1.0.2, e2.0.2, e3.0.2),
        e3.0.3 ∙ e2.0.3 ∙ e1.0.3,
        λ input is.
            let d3 = e3.0.4 input is in let d2 = e2.0.4 input d3.0 in let d1 = e1.0.4 input d2.0 in
            let x1 = d1.1 in let x3 = d3.1 in let half : length x3.value / 2 ≡ c.in_ok-count.count = omega (arith, times_count (2 * c.in_ok-count.count) (pool_index (c.args.sizes.now).strings) _ _ x3.value x3.read) in (
              d1.0,
              record {
                value = record { name = x1.value; items = x3.value };
                read = rw (x1.read, d2.1, x3.read) refl;
                bytes = rw (x3.bytes, c.in_ok-put_u30.ensures, x1.bytes, half) (simp append_assoc);
                tells = refl;
              },
            ),
      ),
      (λ e h. absurd (let k = e1.0.0 in cc)),
      omega (arith, e1.2, e2.2, e3.2),
      (λ k h. absurd cc),
      tt,
    )
