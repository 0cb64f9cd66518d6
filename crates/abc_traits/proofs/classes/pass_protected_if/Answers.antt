use Rattle.std.proofs.Common.{arith, refl}
use Rattle.std.proofs.Common.{Some}
use Rattle.abc_file_types.specs.Part.{when}
use Rattle.abc_traits.proofs.classes.pass_protected_if.Goals as goal

pub returns-in_ok-pass : goal.returns-in_ok-pass
unfolding when
returns-in_ok-pass g c =
    let e1 = c.in_ok-pass.ensures in (
      (
        e1.0.0,
        e1.0.1,
        e1.0.2,
        e1.0.3,
        λ input is.
            let d1 = e1.0.4 input is in
            let x1 = d1.1 in (
              d1.0,
              record {
                value = Some x1.value;
                read = rw (c.if-flag.true, x1.read) refl;
                bytes = x1.bytes;
                tells = refl;
              },
            ),
      ),
      (λ e h. absurd (let k = e1.0.0 in cc)),
      omega (arith, e1.2),
      (λ k h. absurd cc),
      tt,
    )
