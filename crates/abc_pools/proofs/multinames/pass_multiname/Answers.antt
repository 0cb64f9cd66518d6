use Rattle.std.proofs.Common.{arith, append_assoc, refl, ◌∙◌}
use Rattle.abc_file_types.specs.Pools.{multiname}
use Rattle.abc_file_types.specs.declared.names.Multiname.TheVariants as names
use Rattle.abc_pools.proofs.multinames.pass_multiname.Goals as goal

pub returns-in-TypeName : goal.returns-in-TypeName
unfolding multiname
returns-in-TypeName g c =
    let e1 = c.in_ok-kind.ensures.value in let e2 = c.in_ok-pass_type_fields.ensures in (
      (
        e1.0.0,
        e2.0.1,
        omega (arith, e1.0.2, e2.0.2),
        e2.0.3 ∙ e1.0.3,
        λ input is.
            let d2 = e2.0.4 input is in let d1 = e1.0.4 input d2.0 in
            let x = d2.1 in (
              d1.0,
              record {
                value = names.TypeName x.value.0 x.value.1;
                read = rw (d1.1, c.in-TypeName.is, x.read) refl;
                bytes = rw (x.bytes, c.in_ok-put_u8.ensures) (simp append_assoc);
                tells = refl;
              },
            ),
      ),
      (λ e h. absurd (let k = e1.0.0 in cc)),
      omega (arith, e1.2, e2.2),
      (λ k h. absurd cc),
      tt,
    )
