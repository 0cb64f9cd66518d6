use Rattle.std.proofs.Common.{◌∙◌, ap, sym, rules, arith}
use Rattle.std.proofs.lemmas.Int.{ints, to_z-of_z}
use Rattle.std.specs.Int.{w64}
use Rattle.std.specs.Prelude.{FitsSigned}
use Rattle.abc_heap_values.specs.Lanes.{property_in}
use Rattle.abc_heap_values.specs.declared.values.Value.{Value}
use Rattle.abc_heap_values.specs.declared.values.Value.TheVariants.{Num}
use Rattle.abc_heap_store.specs.Properties.{with_value}
use Rattle.abc_heap_store.proofs.heads.hold_value.Goals as goal

pub returns-in-Num : goal.returns-in-Num
returns-in-Num c =
    let fits : FitsSigned w64 c.in-Num.n = first_of (search rules, omega (arith, ints), grind (arith, ints)) in
    record {
      now = c.revalued.result;
      lane = c.revalued.ensures.lane;
      value = c.revalued.ensures.value ∙ ap (λ n. with_value (Num n) (property_in c.args.held)) (to_z-of_z w64 c.in-Num.n fits) ∙ ap (λ (x : Value). with_value x (property_in c.args.held)) (sym c.in-Num.is);
      cells = c.hold.ensures;
    }

pub returns-in_default : goal.returns-in_default
returns-in_default c = record { now = c.revalued-in_default.result; lane = c.revalued-in_default.ensures.lane; value = c.revalued-in_default.ensures.value; cells = c.hold-in_default.ensures }
