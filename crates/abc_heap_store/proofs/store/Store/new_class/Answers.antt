use Rattle.std.specs.Prelude.{false, ◌+◌, ◌∷◌, []}
use Rattle.std.proofs.Common.{arith, ◌∙◌, ap, ◌≡◌, length}
use Rattle.abc_heap_store.specs.Heap.{Heap, obj_id}
use Rattle.abc_heap_store.proofs.Steps.{made_counted, scopes_counted, made_slot, class_made}
use Rattle.abc_heap_store.proofs.store.Store.new_class.Goals as goal

pub keep_scopes-statics-requires : goal.keep_scopes-statics-requires
keep_scopes-statics-requires g c =
    let a = made_counted _ _ _ _ _ _ c.make_object-prototype.ensures.heap in
    record { room = (omega (arith, a, c.in_ok-room_for_class.ensures), omega (arith, a, c.in_ok-room_for_class.ensures, c.count.ensures, c.count-2.ensures)) }

pub overflow_add-object : goal.overflow_add-object
overflow_add-object g c = omega (arith, c.in_ok-room_for_class.ensures, c.make_object-prototype.ensures.number, ap (λ (h : Heap). h.limits.objects) c.self.view_is)

pub keep_above-instances-requires : goal.keep_above-instances-requires
keep_above-instances-requires g c =
    let a = made_counted _ _ _ _ _ _ c.make_object-prototype.ensures.heap in
    let b = scopes_counted _ _ _ _ c.keep_scopes-statics.ensures.heap in
    record { room = (omega (arith, a, b, c.in_ok-room_for_class.ensures), omega (arith, a, b, c.in_ok-room_for_class.ensures)) }

pub make_object-o-requires : goal.make_object-o-requires
make_object-o-requires g c =
    let a = made_counted _ _ _ _ _ _ c.make_object-prototype.ensures.heap in
    let b = scopes_counted _ _ _ _ c.keep_scopes-statics.ensures.heap in
    let d = scopes_counted _ ((record { object = obj_id (c.make_object-prototype.result.0 + 1); with_flag = false }) ∷ []) _ _ c.keep_above-instances.ensures.heap in
    record { room = (omega (arith, a, b, d, c.in_ok-room_for_class.ensures), omega (arith, a, b, d, c.in_ok-room_for_class.ensures)) }

pub set_slot-requires : goal.set_slot-requires
set_slot-requires g c = made_slot _ _ _ _ _ _ c.make_object-o.result.0 c.make_object-o.ensures.heap c.make_object-o.ensures.number c.requires.prototype

pub name_class-requires : goal.name_class-requires
name_class-requires g c =
    let n : length c.set_slot.new.self.classes ≡ length c.args.self.now.classes =
    ap (λ (h : Heap). length h.classes) c.set_slot.ensures ∙ (ap (λ (h : Heap). length h.classes) c.make_object-o.ensures.heap ∙ (ap (λ (h : Heap). length h.classes) c.keep_above-instances.ensures.heap ∙ (ap (λ (h : Heap). length h.classes) c.keep_scopes-statics.ensures.heap ∙ ap (λ (h : Heap). length h.classes) c.make_object-prototype.ensures.heap))) in
    omega (arith, n, c.requires.class)

pub returns : goal.returns
returns g c =
    let made = class_made _ _ _ _ _ c.set_slot.new.self c.name_class.new.self _ _ c.args.parts c.args.saved c.args.scopes.now c.make_object-prototype.result.0 c.make_object-o.result.0 _ c.keep_above-instances.result.0 c.make_object-prototype.ensures.number c.make_object-prototype.ensures.heap c.keep_scopes-statics.ensures.top c.keep_scopes-statics.ensures.heap c.keep_above-instances.ensures.top c.keep_above-instances.ensures.heap c.make_object-o.ensures.number c.make_object-o.ensures.heap c.set_slot.ensures c.name_class.ensures in
    record { number = made.0; room = (omega (arith, c.in_ok-room_for_class.ensures), omega (arith, c.in_ok-room_for_class.ensures)); heap = made.1 }
