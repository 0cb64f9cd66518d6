use Rattle.std.proofs.Common.{◌≡◌, ◌<◌, ◌∙◌, ap, sym, subst, arith, length, map, None}
use Rattle.std.specs.Prelude.{get_or}
use Rattle.std.proofs.lemmas.List.{length-map}
use Rattle.abc_base.specs.declared.names.HostClass.TheVariants as hosts
use Rattle.abc_heap_store.specs.Heap.{Heap}
use Rattle.abc_heap_store.specs.Changes.{with_class}
use Rattle.abc_heap_store.specs.declared.store.ClassParts.{ClassParts}
use Rattle.abc_link_names.specs.Slots.{slots_of}
use Rattle.abc_link_names.specs.declared.part.LayoutId.{LayoutId}
use Rattle.abc_link_names.specs.declared.types.SlotInfo.{SlotInfo}
use Rattle.abc_objects.specs.Stands.{StandsOver, IsObjectOrNone, IsScope, AreEntries}
use Rattle.abc_objects.specs.Starts.{start_value, start_values}
use Rattle.abc_objects.proofs.Made.{host_found}
use Rattle.abc_objects.proofs.Classes.{class_layout, over_class}
use Rattle.abc_objects.proofs.Ways.{either_way, starts_are}
use Rattle.abc_objects.proofs.arena.Arena.new_class.Goals as goal

pub starts_of-prototype_starts-requires-clause-layout : goal.starts_of-prototype_starts-requires-clause-layout
starts_of-prototype_starts-requires-clause-layout c =
    let l = c.args.l.now in
    subst (λ (x : LayoutId). x.0 < length l.parts) (sym c.layout_of-prototype_layout.ensures) (host_found l c.requires.over.linked hosts.Object).0

pub starts_of-class_starts-requires-clause-layout : goal.starts_of-class_starts-requires-clause-layout
starts_of-class_starts-requires-clause-layout c =
    let l = c.args.l.now in
    subst (λ (x : LayoutId). x.0 < length l.parts) (sym c.layout_of-class_layout.ensures) (class_layout l c.requires.over.linked c.args.class c.requires.class).0

pub new_class-requires-clause-prototype : goal.new_class-requires-clause-prototype
new_class-requires-clause-prototype c =
    let l = c.args.l.now in
    let starts = c.starts_of-class_starts.result in
    let some = subst (λ (x : LayoutId). 0 < length (slots_of l x.0)) (sym c.layout_of-class_layout.ensures) (class_layout l c.requires.over.linked c.args.class c.requires.class).2 in
    omega (arith, some, ap length c.starts_of-class_starts.ensures.slots, length-map starts.slots.now (λ (i : SlotInfo). start_value starts.pool.now i.start))

pub returns-clause-over : goal.returns-clause-over
returns-clause-over c =
    let l = c.args.l.now in
    let h = c.self.inside.store in
    let s = subst (StandsOver l) (sym c.self.view_is) c.requires.over in
    let free = subst (λ (y : Heap). get_or y.classes c.args.class None ≡ None) (sym c.self.view_is) c.requires.first in
    let b = subst (λ (y : Heap). IsObjectOrNone y c.args.base_prototype) (sym c.self.view_is) c.requires.base_prototype in
    let d = subst (λ (y : Heap). IsObjectOrNone y c.args.delegate) (sym c.self.view_is) c.requires.delegate in
    let sc = subst (λ (y : Heap). IsScope y c.args.saved) (sym c.self.view_is) c.requires.saved in
    let es = subst (λ (y : Heap). AreEntries y c.args.scopes.now) (sym c.self.view_is) c.requires.scopes in
    let x = c.layout_of-prototype_layout.result.0 in
    let y = c.layout_of-class_layout.result.0 in
    let parts : ClassParts = record { class = c.args.class; home = c.args.home; prototype_layout = x; class_layout = y; base_prototype = c.args.base_prototype; delegate = c.args.delegate } in
    let made = over_class l h parts c.args.saved c.args.scopes.now s c.requires.class c.requires.home (ap (λ (z : LayoutId). z.0) c.layout_of-prototype_layout.ensures) (ap (λ (z : LayoutId). z.0) c.layout_of-class_layout.ensures) b d sc es free in
    let ps = starts_are c.starts_of-prototype_starts.result.pool.now l.file.strings c.starts_of-prototype_starts.result.slots.now (slots_of l x) c.starts_of-prototype_starts.ensures.pool c.starts_of-prototype_starts.ensures.slots in
    let cs = starts_are c.starts_of-class_starts.result.pool.now l.file.strings c.starts_of-class_starts.result.slots.now (slots_of l y) c.starts_of-class_starts.ensures.pool c.starts_of-class_starts.ensures.slots in
    let own = map (λ (i : SlotInfo). start_value c.starts_of-class_starts.result.pool.now i.start) c.starts_of-class_starts.result.slots.now in
    let same = ap (λ vs. with_class vs own parts c.args.saved c.args.scopes.now h) ps ∙ ap (λ vs. with_class (start_values l x) vs parts c.args.saved c.args.scopes.now h) cs in
    either_way (StandsOver l c.new_class.new.self) c.new_class.result _ _ c.new_class.ensures
    (λ r p. subst (StandsOver l) (sym (p.heap ∙ same)) made)
    (λ e q. subst (StandsOver l) (sym q.0) s)
