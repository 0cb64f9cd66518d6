use Rattle.std.proofs.Common.{IsTrue, arith, rules, subst, sym}
use Rattle.std.proofs.lemmas.Int.{ints, to_z-of_z}
use Rattle.std.specs.Int.{w64}
use Rattle.std.specs.Prelude.{FitsSigned}
use Rattle.abc_base.specs.Ranges.{IsNumber}
use Rattle.abc_objects.specs.Values.{Exists}
use Rattle.abc_tests_heap.proofs.opened.exists.Goals as goal

pub returns-in-Text : goal.returns-in-Text
returns-in-Text c = λ (t : IsTrue c.is_text.result). subst (Exists c.args.l.now c.args.a.now) (sym c.in-Text.is) (c.is_text.ensures t)

pub returns-in-Num : goal.returns-in-Num
returns-in-Num c = λ (t : IsTrue c.is_number.result).
    let f : FitsSigned w64 c.in-Num.n = first_of (search rules, omega (arith, ints), grind (arith, ints)) in
    subst (Exists c.args.l.now c.args.a.now) (sym c.in-Num.is) (subst IsNumber (to_z-of_z w64 c.in-Num.n f) (c.is_number.ensures t))

pub returns-in-Space : goal.returns-in-Space
returns-in-Space c = λ (t : IsTrue c.is_space.result). subst (Exists c.args.l.now c.args.a.now) (sym c.in-Space.is) (c.is_space.ensures t)

pub returns-in-Obj : goal.returns-in-Obj
returns-in-Obj c = λ (t : IsTrue c.is_object.result). subst (Exists c.args.l.now c.args.a.now) (sym c.in-Obj.is) (c.is_object.ensures t)
