use Rattle.std.proofs.Common.{ℕ, ◌+◌, subst, sym}
use Rattle.abc_heap_store.specs.Heap.{obj_id}
use Rattle.abc_objects.specs.Opening.{host_class_object}
use Rattle.abc_objects.specs.Stands.{IsMadeAs}
use Rattle.abc_objects.proofs.Opened.{class_made}
use Rattle.abc_objects.proofs.arena.Arena.host_class.Goals as goal

pub returns-clause-is : goal.returns-clause-is
returns-clause-is c = λ l s. subst (λ (n : ℕ). IsMadeAs c.args.self.now (obj_id (14 + n)) (host_class_object l c.args.class)) (sym c.class_number.ensures) (class_made l c.args.self.now c.args.class s)
