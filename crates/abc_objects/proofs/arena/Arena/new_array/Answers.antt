use Rattle.std.proofs.Common.{◌≡◌, ◌∙◌, ap, sym, subst}
use Rattle.abc_base.specs.declared.names.HostClass.TheVariants as hosts
use Rattle.abc_heap_store.specs.Heap.{Heap}
use Rattle.abc_heap_store.specs.Changes.{with_array}
use Rattle.abc_link_names.specs.declared.part.LayoutId.{LayoutId}
use Rattle.abc_objects.specs.Stands.{StandsOver, EachAt, array_layout, host_class_number, prototype_of}
use Rattle.abc_objects.specs.Values.{Exists}
use Rattle.abc_objects.proofs.Made.{over_array, prototype_is}
use Rattle.abc_objects.proofs.Ways.{either_way}
use Rattle.abc_objects.proofs.arena.Arena.new_array.Goals as goal

pub prototype-delegate-requires : goal.prototype-delegate-requires
prototype-delegate-requires c = c.requires.over.hosts hosts.Array

pub returns-clause-over : goal.returns-clause-over
returns-clause-over c =
    let l = c.args.l.now in
    let h = c.self.inside.store in
    let s = subst (StandsOver l) (sym c.self.view_is) c.requires.over in
    let n = host_class_number hosts.Array in
    let d : c.prototype-delegate.result ≡ prototype_of h n = c.prototype-delegate.ensures ∙ ap (λ (y : Heap). prototype_of y n) (sym c.self.view_is) in
    let es = c.args.elements.now in
    let made = over_array l h es (prototype_of h n) s (prototype_is l h n s) (subst (λ (y : Heap). EachAt (Exists l y) c.args.elements.now) (sym c.self.view_is) c.requires.values) in
    let same = ap (λ (x : LayoutId). with_array es x.0 c.prototype-delegate.result h) c.layout_of-layout.ensures ∙ ap (λ o. with_array es (array_layout l) o h) d in
    either_way (StandsOver l c.new_array.new.self) c.new_array.result _ _ c.new_array.ensures
    (λ r p. subst (StandsOver l) (sym (p.heap ∙ same)) made)
    (λ e q. subst (StandsOver l) (sym q.0) s)
