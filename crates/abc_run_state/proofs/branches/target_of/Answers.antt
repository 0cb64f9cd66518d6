use Rattle.std.proofs.Common.{◌≡◌, ◌∷◌, ℤ, rules, arith, subst, sym}
use Rattle.std.proofs.lemmas.Int.{ints, to_z-of_z}
use Rattle.std.specs.Int.{w64}
use Rattle.std.specs.Prelude.{FitsSigned}
use Rattle.abc_meaning.specs.Simple.{switch_target}
use Rattle.abc_heap_values.specs.declared.values.Value.{Value}
use Rattle.abc_heap_values.specs.declared.values.Value.TheVariants.{Num}
use Rattle.abc_meaning.specs.World.{Went, World}
use Rattle.abc_run_state.proofs.branches.target_of.Goals as goal

pub returns-in-Num : goal.returns-in-Num
returns-in-Num c =
    let fits : FitsSigned w64 c.in-Num.n = first_of (search rules, omega (arith, ints), grind (arith, ints)) in
    let is : (w : World) → switch_target (c.args.default ∷ c.args.cases.now) (Num c.in-Num.n) w ≡ Went w c.case_of.result =
    subst (λ (m : ℤ). (w : World) → switch_target (c.args.default ∷ c.args.cases.now) (Num m) w ≡ Went w c.case_of.result) (to_z-of_z w64 c.in-Num.n fits) c.case_of.ensures in
    λ w free. subst (λ (v : Value). switch_target (c.args.default ∷ c.args.cases.now) v w ≡ Went w c.case_of.result) (sym c.in-Num.is) (is w)
