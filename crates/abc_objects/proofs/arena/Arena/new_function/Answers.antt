use Rattle.std.proofs.Common.{◌<◌, ◌∙◌, ap, sym, subst, length, None}
use Rattle.abc_heap_store.specs.Heap.{Heap}
use Rattle.abc_heap_store.specs.Changes.{with_made, with_scopes}
use Rattle.abc_heap_store.specs.Scopes.{top_of_scopes}
use Rattle.abc_heap_store.specs.declared.records.What.TheVariants.{Closure}
use Rattle.abc_link_names.specs.declared.part.LayoutId.{LayoutId}
use Rattle.abc_objects.specs.Starts.{start_values}
use Rattle.abc_link_names.specs.Slots.{slots_of}
use Rattle.abc_objects.specs.Stands.{StandsOver, IsObjectOrNone, IsScope, AreEntries}
use Rattle.abc_objects.proofs.Made.{over_function, function_layout}
use Rattle.abc_objects.proofs.Ways.{either_way, starts_are}
use Rattle.abc_objects.proofs.arena.Arena.new_function.Goals as goal

pub starts_of-starts-requires-clause-layout : goal.starts_of-starts-requires-clause-layout
starts_of-starts-requires-clause-layout c =
    let l = c.args.l.now in
    subst (λ (x : LayoutId). x.0 < length l.parts) (sym c.layout_of-layout.ensures) (function_layout l c.requires.over.linked).0

pub returns-clause-over : goal.returns-clause-over
returns-clause-over c =
    let l = c.args.l.now in
    let h = c.self.inside.store in
    let s = subst (StandsOver l) (sym c.self.view_is) c.requires.over in
    let d = subst (λ (y : Heap). IsObjectOrNone y c.args.delegate) (sym c.self.view_is) c.requires.delegate in
    let sc = subst (λ (y : Heap). IsScope y c.args.saved) (sym c.self.view_is) c.requires.saved in
    let es = subst (λ (y : Heap). AreEntries y c.args.scopes.now) (sym c.self.view_is) c.requires.scopes in
    let what = Closure c.args.method c.args.home (top_of_scopes (length h.scopes) c.args.saved c.args.scopes.now) None in
    let mid = with_scopes c.args.saved c.args.scopes.now h in
    let made = over_function l h c.args.method c.args.home c.args.delegate c.args.saved c.args.scopes.now s c.requires.method c.requires.home d sc es in
    let at = subst (λ (x : LayoutId). StandsOver l (with_made (start_values l x.0) x.0 c.args.delegate what mid)) (sym c.layout_of-layout.ensures) made in
    let vs = starts_are c.starts_of-starts.result.pool.now l.file.strings c.starts_of-starts.result.slots.now (slots_of l c.layout_of-layout.result.0) c.starts_of-starts.ensures.pool c.starts_of-starts.ensures.slots in
    either_way (StandsOver l c.new_function.new.self) c.new_function.result _ _ c.new_function.ensures
    (λ r p. subst (StandsOver l) (sym (p.heap ∙ ap (λ ws. with_made ws c.layout_of-layout.result.0 c.args.delegate what mid) vs)) at)
    (λ e q. subst (StandsOver l) (sym q.0) s)
