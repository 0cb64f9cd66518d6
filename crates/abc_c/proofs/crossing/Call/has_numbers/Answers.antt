use Rattle.std.proofs.Common.{subst, sym, rules, arith}
use Rattle.std.proofs.lemmas.Int.{ints, to_z-of_z}
use Rattle.std.specs.Int.{w64}
use Rattle.std.specs.Prelude.{FitsSigned}
use Rattle.abc_base.specs.Ranges.{IsNumber}
use Rattle.abc_c.proofs.crossing.Call.has_numbers.Goals as goal

pub returns-then-are_numbers : goal.returns-then-are_numbers
returns-then-are_numbers c =
    let s = c.args.self.now in
    let a : FitsSigned w64 s.a = first_of (search rules, omega (arith, ints), grind (arith, ints)) in
    let b : FitsSigned w64 s.b = first_of (search rules, omega (arith, ints), grind (arith, ints)) in
    let x : FitsSigned w64 s.c = first_of (search rules, omega (arith, ints), grind (arith, ints)) in
    let y : FitsSigned w64 s.d = first_of (search rules, omega (arith, ints), grind (arith, ints)) in
    let front = c.are_numbers.ensures.0 c.if-are_numbers.true in
    let rest = c.are_numbers-then-are_numbers.ensures in (
      λ r.
          let back = rest.0 r in
          record {
            first = subst IsNumber (to_z-of_z w64 s.a a) front.0;
            second = subst IsNumber (to_z-of_z w64 s.b b) front.1;
            third = subst IsNumber (to_z-of_z w64 s.c x) back.0;
            fourth = subst IsNumber (to_z-of_z w64 s.d y) back.1;
          },
      λ h. rest.1 (subst IsNumber (sym (to_z-of_z w64 s.c x)) h.third, subst IsNumber (sym (to_z-of_z w64 s.d y)) h.fourth),
    )
