use Rattle.std.proofs.Common.{arith}
use Rattle.abc_heap_store.proofs.Flat.{slots_past, slot_is, slot_bound}
use Rattle.abc_heap_store.proofs.heads.slot_place.Goals as goal

pub head_at-requires : goal.head_at-requires
head_at-requires c = slots_past c.args.cells.now.items 0 c.args.o c.args.k c.args.heads.now.items c.requires.slot

pub overflow_add-result : goal.overflow_add-result
overflow_add-result c = omega (arith, slot_bound c.args.cells.now.items c.args.heads.now.items c.args.o c.args.k _ c.requires.heads c.head_at.ensures c.requires.slot, c.requires.small)

pub returns : goal.returns
returns c = slot_is c.args.cells.now.items c.args.heads.now.items c.args.o c.args.k _ c.requires.heads c.head_at.ensures c.requires.slot
