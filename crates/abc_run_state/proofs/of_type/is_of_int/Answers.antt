use Rattle.std.proofs.Common.{◌≡◌, ℤ, arith, rules, subst}
use Rattle.std.proofs.lemmas.Int.{ints, to_z-of_z}
use Rattle.std.specs.Int.{int_wrap, w32, w64}
use Rattle.std.specs.Prelude.{FitsSigned}
use Rattle.abc_run_state.proofs.StaysSo.{int_kept}
use Rattle.abc_run_state.proofs.of_type.is_of_int.Goals as goal

pub returns-in-Num : goal.returns-in-Num
returns-in-Num c = λ e.
    let f : FitsSigned w64 c.in-Num.n = first_of (search rules, omega (arith, ints), grind (arith, ints)) in
    int_kept c.args.v c.in-Num.n c.in-Num.is (subst (λ (z : ℤ). int_wrap w32 z ≡ z) (to_z-of_z w64 c.in-Num.n f) (c.is_int.ensures e))
