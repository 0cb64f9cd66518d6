use Rattle.std.proofs.Common.{arith, append_assoc, refl, ◌∙◌}
use Rattle.abc_file_types.specs.Traits.{trait_info, trait_bytes}
use Rattle.abc_traits.proofs.traits.pass_trait.Goals as goal

pub returns : goal.returns
unfolding trait_info trait_bytes
returns g c =
    let e1 = c.in_ok-pass.ensures in let e2 = c.in_ok-kind.ensures in let e3 = c.in_ok-body.ensures in let e4 = c.in_ok-pass_counted_if.ensures in (
      (
        e1.0.0,
        e4.0.1,
        omega (arith, e1.0.2, e2.0.2, e3.0.2, e4.0.2),
        e4.0.3 ∙ e3.0.3 ∙ e2.0.3 ∙ e1.0.3,
        λ input is.
            let d4 = e4.0.4 input is in let d3 = e3.0.4 input d4.0 in let d2 = e2.0.4 input d3.0 in let d1 = e1.0.4 input d2.0 in
            let x1 = d1.1 in let x4 = d4.1 in (
              d1.0,
              record {
                value = record { name = x1.value; attrs = c.in_ok-kind.attrs; body = c.in_ok-body.body; metadata = x4.value };
                read = rw (x1.read, d2.1, d3.1, ← c.has_flag-described.ensures, x4.read) refl;
                bytes = rw (x4.bytes, c.in_ok-put_trait_fields.ensures, c.in_ok-put_u8.ensures, c.code_of.ensures.is, x1.bytes, ← c.has_flag-described.ensures) (simp append_assoc);
                tells = refl;
              },
            ),
      ),
      (λ e h. absurd (let k = e1.0.0 in cc)),
      omega (arith, e1.2, e2.2, e3.2, e4.2),
      (λ k h. absurd cc),
      tt,
    )
