use Rattle.std.proofs.Common.{◌≡◌, ℕ, ◌+◌, ap, arith, length, subst}
use Rattle.abc_heap_store.specs.Heap.{Heap, obj_id}
use Rattle.abc_heap_store.specs.declared.records.Limits.{Limits}
use Rattle.abc_objects.specs.Opening.{opening_global_number, global_object}
use Rattle.abc_objects.specs.Stands.{IsMadeAs}
use Rattle.abc_objects.proofs.Opened.{global_made}
use Rattle.abc_objects.proofs.arena.Arena.global.Goals as goal

pub overflow_cast-result : goal.overflow_cast-result
overflow_cast-result c = omega (arith, c.requires.1.opening.few, c.formulas.ensures, ap (λ (h : Heap). length h.formulas) c.self.view_is)

pub overflow_add-result : goal.overflow_add-result
overflow_add-result c = omega (arith, c.requires.1.opening.few, c.formulas.ensures, ap (λ (h : Heap). length h.formulas) c.self.view_is)

pub overflow_add-result-2 : goal.overflow_add-result-2
overflow_add-result-2 c =
    let there = (global_made c.requires.0 c.args.self.now c.args.script c.requires.1 c.requires.2).0 in
    omega (arith, there, ap (λ (m : Limits). m.objects) c.counts-objects.ensures, c.formulas.ensures, ap (λ (h : Heap). length h.formulas) c.self.view_is, ap (λ (h : Heap). length h.objects) c.self.view_is)

pub returns-clause-number : goal.returns-clause-number
returns-clause-number c = omega (arith, c.formulas.ensures, ap (λ (h : Heap). length h.formulas) c.self.view_is)

pub returns-clause-is : goal.returns-clause-is
returns-clause-is c = λ l s b.
    let e : opening_global_number (length c.args.self.now.formulas) c.args.script ≡ 30 + c.formulas.result + c.args.script = omega (arith, c.formulas.ensures, ap (λ (h : Heap). length h.formulas) c.self.view_is) in
    subst (λ (n : ℕ). IsMadeAs c.args.self.now (obj_id n) (global_object l c.args.script)) e (global_made l c.args.self.now c.args.script s b)
