use Rattle.std.proofs.Common.{◌≡◌, length, sym, arith}
use Rattle.abc_heap_store.specs.Heap.{slots_of_object}
use Rattle.abc_run_state.proofs.Things.{none_held}
use Rattle.abc_run_state.proofs.prototypes.prototype_of.Goals as goal

pub first_held-requires-clause-slot : goal.first_held-requires-clause-slot
first_held-requires-clause-slot c = omega (arith, c.slot_count.ensures)

pub returns-then-slot_count-eq0-clause-is : goal.returns-then-slot_count-eq0-clause-is
returns-then-slot_count-eq0-clause-is c =
    let none : length (slots_of_object c.args.s.now.arena.objects c.args.class_object.0) ≡ 0 = omega (arith, c.slot_count.ensures) in
    sym (none_held (slots_of_object c.args.s.now.arena.objects c.args.class_object.0) none)
