use Rattle.std.proofs.Common.{◌≡◌, ◌+◌, arith}
use Rattle.abc_lookup.specs.Slots.{slot_of}
use Rattle.abc_lookup.proofs.SlotPlaces.{few_before, slot_is}
use Rattle.abc_lookup.proofs.tables.slot_at.Goals as goal

pub overflow_add-result : goal.overflow_add-result
overflow_add-result c =
    let e : c.slots_under.result + c.slots_before.result ≡ slot_of c.args.l.now c.args.x.0 c.args.place = slot_is c.args.l.now c.args.x.0 c.args.place c.slots_under.result c.slots_before.result c.slots_under.ensures c.slots_before.ensures in
    let f = few_before c.args.l.now c.linked_law.ensures c.slots_law.ensures c.args.x.0 c.args.place c.requires.layout in
    omega (arith, e, f)

pub overflow_cast-result-2 : goal.overflow_cast-result-2
overflow_cast-result-2 c =
    let e : c.slots_under.result + c.slots_before.result ≡ slot_of c.args.l.now c.args.x.0 c.args.place = slot_is c.args.l.now c.args.x.0 c.args.place c.slots_under.result c.slots_before.result c.slots_under.ensures c.slots_before.ensures in
    let f = few_before c.args.l.now c.linked_law.ensures c.slots_law.ensures c.args.x.0 c.args.place c.requires.layout in
    omega (arith, e, f)

pub returns : goal.returns
returns c = slot_is c.args.l.now c.args.x.0 c.args.place c.slots_under.result c.slots_before.result c.slots_under.ensures c.slots_before.ensures
