use Rattle.std.proofs.Common.{subst, sym, rules, arith}
use Rattle.std.proofs.lemmas.Int.{ints, to_z-of_z}
use Rattle.std.specs.Int.{w64}
use Rattle.std.specs.Prelude.{FitsSigned}
use Rattle.abc_base.specs.Ranges.{IsNumber}
use Rattle.abc_objects.specs.Values.{Exists}
use Rattle.abc_ops.proofs.conversions.spell_as.Goals as goal

pub make_number-requires : goal.make_number-requires
make_number-requires c =
    let e : IsNumber c.in-Num.n = subst (Exists c.args.l.now c.args.a.now) c.in-Num.is c.requires in
    let f : FitsSigned w64 c.in-Num.n = first_of (search rules, omega (arith, ints), grind (arith, ints)) in
    subst IsNumber (sym (to_z-of_z w64 c.in-Num.n f)) e
