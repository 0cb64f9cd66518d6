use Rattle.std.proofs.Common.{◌≡◌, ℕ, ◌+◌, ap, arith, length, subst}
use Rattle.abc_heap_store.specs.Heap.{Heap, obj_id}
use Rattle.abc_objects.specs.Opening.{host_object, opening_host_object, property_names}
use Rattle.abc_objects.specs.Stands.{IsMadeAs}
use Rattle.abc_objects.proofs.Opened.{host_made}
use Rattle.abc_objects.proofs.arena.Arena.host_object.Goals as goal

pub overflow_cast-result : goal.overflow_cast-result
overflow_cast-result c = omega (arith, c.requires.1.opening.few, c.formulas.ensures, ap (λ (h : Heap). length h.formulas) c.self.view_is)

pub overflow_add-result : goal.overflow_add-result
overflow_add-result c = omega (arith, c.requires.1.opening.few, c.formulas.ensures, ap (λ (h : Heap). length h.formulas) c.self.view_is)

pub returns-clause-number : goal.returns-clause-number
returns-clause-number c = omega (arith, c.formulas.ensures, ap (λ (h : Heap). length h.formulas) c.self.view_is)

pub returns-clause-is : goal.returns-clause-is
returns-clause-is c = λ l s.
    let e : opening_host_object (length c.args.self.now.formulas) ≡ 29 + c.formulas.result = omega (arith, c.formulas.ensures, ap (λ (h : Heap). length h.formulas) c.self.view_is) in
    subst (λ (n : ℕ). IsMadeAs c.args.self.now (obj_id n) (host_object l (property_names c.args.self.now.formulas))) e (host_made l c.args.self.now s)
