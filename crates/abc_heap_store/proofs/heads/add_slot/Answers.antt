use Rattle.std.proofs.Common.{refl}
use Rattle.abc_heap_values.specs.declared.cell.Held.TheVariants.{Slot}
use Rattle.abc_heap_store.proofs.Indexed.{added_keeps, slot_full}
use Rattle.abc_heap_store.proofs.Makes.{slot_grown}
use Rattle.abc_heap_store.proofs.heads.add_slot.Goals as goal

pub returns : goal.returns
returns c =
    let g = slot_grown c.args.cells.now.items c.append.new.cells.items c.args.heads.now.items c.args.o c.args.chain c.append.result c.args.v c.requires.heads c.requires.inside c.requires.next c.append.ensures.added c.append.ensures.linked c.append.ensures.chain c.append.ensures.place in
    record { objects = g.0; heads = g.1; next = g.2; index = added_keeps c.args.cells.now c.append.new.cells c.args.o (Slot c.args.v) c.append.ensures.added c.append.ensures.limit c.requires.room refl (slot_full c.args.v); sizes = (g.3, c.append.ensures.limit) }
