use Rattle.std.proofs.Common.{arith, refl, ◌∙◌}
use Rattle.abc_file_types.specs.Bodies.{body_list}
use Rattle.abc_disasm.proofs.listed_bodies.list_bodies.Goals as goal

pub returns : goal.returns
unfolding body_list
returns g c =
    let e1 = c.in_ok-count.ensures.value.0 in let e2 = c.in_ok-list_each_body.ensures in (
      (
        e1.0.0,
        e2.0.1,
        omega (arith, e1.0.2, e2.0.2),
        e2.0.3 ∙ e1.0.3,
        λ input is.
            let d2 = e2.0.4 input is in let d1 = e1.0.4 input d2.0 in
            let x2 = d2.1 in (d1.0, record { value = x2.value; read = rw (d1.1, x2.read) refl; bytes = x2.bytes; tells = refl }),
      ),
      (λ e h. absurd (let k = e1.0.0 in cc)),
      omega (arith, e1.2, e2.2),
      (λ k h. absurd cc),
      tt,
    )
