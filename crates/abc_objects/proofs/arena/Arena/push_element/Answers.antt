use Rattle.std.proofs.Common.{◌≡◌, sym, subst, true}
use Rattle.abc_heap_store.specs.Heap.{Heap, object_at}
use Rattle.abc_heap_store.specs.What.{is_array}
use Rattle.abc_heap_store.specs.Changes.{with_new_element}
use Rattle.abc_objects.specs.Stands.{StandsOver}
use Rattle.abc_objects.specs.Values.{Exists}
use Rattle.abc_objects.proofs.Kept.{over_changed}
use Rattle.abc_objects.proofs.Reshaped.{new_element_reshapes}
use Rattle.abc_objects.proofs.Ways.{either_way}
use Rattle.abc_objects.proofs.arena.Arena.push_element.Goals as goal

pub returns-clause-over : goal.returns-clause-over
returns-clause-over c = λ l old value.
    let h = c.self.inside.store in
    let s = subst (StandsOver l) (sym c.self.view_is) old in
    let x = subst (λ (y : Heap). Exists l y c.args.v) (sym c.self.view_is) value in
    let w = subst (λ (y : Heap). is_array (object_at y.objects c.args.o.0).what ≡ true) (sym c.self.view_is) c.requires.array in
    either_way (StandsOver l c.push_element.new.self) c.push_element.result _ _ c.push_element.ensures
    (λ r p. subst (StandsOver l) (sym p.1) (over_changed l h (with_new_element c.args.v) c.args.o.0 s (new_element_reshapes l h c.args.o.0 c.args.v w x)))
    (λ e q. subst (StandsOver l) (sym q.2) s)
