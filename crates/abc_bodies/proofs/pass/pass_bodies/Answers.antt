use Rattle.std.proofs.Common.{arith, append_assoc, refl, ◌∙◌}
use Rattle.std.proofs.Common.{◌≡◌, ℕ, List, length, sym}
use Rattle.std.proofs.lemmas.List.Folds.{flat_map-map}
use Rattle.std.proofs.lemmas.List.{length-map}
use Rattle.abc_file_types.specs.Canonical.{counted_bytes}
use Rattle.abc_file_types.specs.declared.code.Body.{Body}
use Rattle.abc_file_types.specs.Bodies.{body_bytes, body_list}
use Rattle.abc_bodies.proofs.pass.pass_bodies.Goals as goal

pub returns : goal.returns
unfolding body_list counted_bytes
returns g c =
    let e1 = c.in_ok-count.ensures.value.0 in let e2 = c.in_ok-pass_each_body.ensures.value in (
      (
        e1.0.0,
        e2.0.1,
        omega (arith, e1.0.2, e2.0.2),
        e2.0.3 ∙ e1.0.3,
        λ input is.
            let d2 = e2.0.4 input is in let d1 = e1.0.4 input d2.0 in
            let x2 = d2.1 in let count : length x2.value ≡ c.in_ok-count.count = sym x2.tells ∙ c.in_ok-pass_each_body.ensures.count in (
              d1.0,
              record {
                value = x2.value;
                read = rw (d1.1, x2.read) refl;
                bytes = rw (x2.bytes, c.in_ok-put_u30.ensures, flat_map-map body_bytes (λ (y : Body × List ℕ). y.0) x2.value, length-map x2.value, count) (simp append_assoc);
                tells = refl;
              },
            ),
      ),
      (λ e h. absurd (let k = e1.0.0 in cc)),
      omega (arith, e1.2, e2.2),
      (λ k h. absurd cc),
      tt,
    )
