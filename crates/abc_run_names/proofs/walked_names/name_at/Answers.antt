use Rattle.std.proofs.Common.{◌≡◌, ◌∙◌, ◌<◌, length, true, false, ap, refl, subst, sym, Ok}
use Rattle.abc_heap_values.specs.declared.values.Value.{Value}
use Rattle.abc_heap_store.specs.Heap.{elements_of, object_at, properties_of}
use Rattle.abc_heap_store.specs.Properties.{at_position, element_at, the_name}
use Rattle.abc_heap_store.specs.What.{is_array}
use Rattle.abc_ops.specs.Left.{LeavesHeap, Left, gives_left}
use Rattle.abc_run_names.specs.Walking.{CanWalk, element_named, named_in, position_of, name_text_or_null, object_of_value}
use Rattle.abc_run_names.proofs.Delegates.{array_named, property_named}
use Rattle.abc_run_names.proofs.walked_names.name_at.Goals as goal

pub returns-then-is_array-clause-named : goal.returns-then-is_array-clause-named
returns-then-is_array-clause-named c =
    let h = c.args.arena.now in
    let o = c.in-Obj.o.0 in
    let k = position_of c.args.at in
    let there : o < length h.objects = subst (CanWalk h) c.in-Obj.is c.requires.object in
    let is : is_array (object_at h.objects o).what ≡ true = ap is_array (sym c.what.ensures) ∙ sym c.is_array.ensures ∙ c.if-is_array.true in
    let same =
    ap (λ p. element_named h p (element_at (elements_of h.objects o) p)) c.place_of.ensures
    ∙ sym (array_named h o k there is)
    ∙ ap (λ (v : Value). named_in h (object_of_value h v) k) (sym c.in-Obj.is) in
    subst (λ (step : Left Value). LeavesHeap step c.element_name.result c.element_name.new.arena) same c.element_name.ensures.named

pub returns-else-is_array-clause-named : goal.returns-else-is_array-clause-named
returns-else-is_array-clause-named c =
    let h = c.args.arena.now in
    let o = c.in-Obj.o.0 in
    let k = position_of c.args.at in
    let there : o < length h.objects = subst (CanWalk h) c.in-Obj.is c.requires.object in
    let is : is_array (object_at h.objects o).what ≡ false = ap is_array (sym c.what.ensures) ∙ sym c.is_array.ensures ∙ c.if-is_array.false in
    let same =
    ap (λ (v : Value). gives_left h v) (c.property_name.ensures ∙ ap (λ p. name_text_or_null (the_name (at_position (properties_of h.objects o) p))) c.place_of-else-is_array.ensures)
    ∙ sym (property_named h o k there is)
    ∙ ap (λ (v : Value). named_in h (object_of_value h v) k) (sym c.in-Obj.is) in
    subst (λ (step : Left Value). LeavesHeap step (Ok c.property_name.result) h) same (refl, refl)
