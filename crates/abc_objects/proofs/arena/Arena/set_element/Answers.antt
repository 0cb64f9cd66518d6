use Rattle.std.proofs.Common.{sym, subst}
use Rattle.abc_heap_store.specs.Heap.{Heap}
use Rattle.abc_heap_store.specs.Changes.{with_element}
use Rattle.abc_objects.specs.Stands.{StandsOver}
use Rattle.abc_objects.specs.Values.{Exists}
use Rattle.abc_objects.proofs.Kept.{over_changed}
use Rattle.abc_objects.proofs.Reshaped.{element_reshapes}
use Rattle.abc_objects.proofs.arena.Arena.set_element.Goals as goal

pub returns-clause-over : goal.returns-clause-over
returns-clause-over c = λ l old value.
    let h = c.self.inside.store in
    let s = subst (StandsOver l) (sym c.self.view_is) old in
    let x = subst (λ (y : Heap). Exists l y c.args.v) (sym c.self.view_is) value in
    subst (StandsOver l) (sym c.set_element.ensures) (over_changed l h (with_element c.args.k c.args.v) c.args.o.0 s (element_reshapes l h c.args.o.0 c.args.k c.args.v x))
