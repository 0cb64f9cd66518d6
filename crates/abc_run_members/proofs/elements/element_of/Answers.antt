use Rattle.std.proofs.Common.{◌≡◌, ℤ, ◌<◌, ◌≤◌, length, subst, rules, arith}
use Rattle.std.proofs.lemmas.Int.{ints, to_z-of_z}
use Rattle.std.specs.Int.{w64}
use Rattle.std.specs.Prelude.{FitsSigned, MatchOption, pos}
use Rattle.abc_heap_store.specs.Heap.{elements_of}
use Rattle.abc_objects.specs.Values.{Exists}
use Rattle.abc_run_members.proofs.Told.{number_of}
use Rattle.abc_run_members.proofs.elements.element_of.Goals as goal

pub returns-in-Num : goal.returns-in-Num
returns-in-Num c =
    let h = c.args.s.now.arena in
    let o = c.args.o in
    let e = subst (Exists c.args.linked.now h) c.in-Num.is c.requires.asked in
    let f : FitsSigned w64 c.in-Num.n = first_of (search rules, omega (arith, ints), grind (arith, ints)) in
    number_of h o c.args.asked c.in-Num.n c.element_numbered.result c.in-Num.is (subst (λ (m : ℤ). MatchOption c.element_numbered.result (Unit {0}) (λ k. (m ≡ pos k) × (k ≤ 4294967294) × (k < length (elements_of h.objects o.0)))) (to_z-of_z w64 c.in-Num.n f) c.element_numbered.ensures)
