use Rattle.std.proofs.Common.{arith, rules, subst, sym}
use Rattle.std.proofs.lemmas.Int.{ints, to_z-of_z}
use Rattle.std.specs.Int.{w64}
use Rattle.std.specs.Prelude.{FitsSigned}
use Rattle.abc_base.specs.Ranges.{IsNumber}
use Rattle.abc_run_calls.proofs.elements.array_for.Goals as goal

pub length_of-requires : goal.length_of-requires
length_of-requires c =
    let e : IsNumber c.in-Num.n = c.in-Num.ensures.there c.args.linked.now c.args.s.now.arena c.requires.set.frame.stack in
    let f : FitsSigned w64 c.in-Num.n = first_of (search rules, omega (arith, ints), grind (arith, ints)) in
    subst IsNumber (sym (to_z-of_z w64 c.in-Num.n f)) e
