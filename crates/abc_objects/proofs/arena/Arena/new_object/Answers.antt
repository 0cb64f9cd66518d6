use Rattle.std.proofs.Common.{◌∙◌, ap, sym, subst}
use Rattle.abc_heap_store.specs.Heap.{Heap}
use Rattle.abc_heap_store.specs.Changes.{with_made}
use Rattle.abc_link_names.specs.Slots.{slots_of}
use Rattle.abc_objects.specs.Stands.{StandsOver, IsObjectOrNone, NamesParts}
use Rattle.abc_objects.proofs.Made.{over_made_object, made_alone}
use Rattle.abc_objects.proofs.Ways.{either_way, starts_are}
use Rattle.abc_objects.proofs.arena.Arena.new_object.Goals as goal

pub returns-clause-over : goal.returns-clause-over
returns-clause-over c =
    let l = c.args.l.now in
    let h = c.self.inside.store in
    let s = subst (StandsOver l) (sym c.self.view_is) c.requires.over in
    let d = subst (λ (y : Heap). IsObjectOrNone y c.args.delegate) (sym c.self.view_is) c.requires.delegate in
    let n = subst (λ (y : Heap). NamesParts l y c.args.what) (sym c.self.view_is) c.requires.names in
    let alone = made_alone c.args.what c.requires.what in
    let vs = starts_are c.starts_of-starts.result.pool.now l.file.strings c.starts_of-starts.result.slots.now (slots_of l c.args.layout.0) c.starts_of-starts.ensures.pool c.starts_of-starts.ensures.slots in
    either_way (StandsOver l c.new_object.new.self) c.new_object.result _ _ c.new_object.ensures
    (λ r p. subst (StandsOver l) (sym (p.heap ∙ ap (λ ws. with_made ws c.args.layout.0 c.args.delegate c.args.what h) vs)) (over_made_object l h c.args.layout.0 c.args.delegate c.args.what s c.requires.layout d n alone.0 c.requires.no_array alone.1))
    (λ e q. subst (StandsOver l) (sym q.0) s)
