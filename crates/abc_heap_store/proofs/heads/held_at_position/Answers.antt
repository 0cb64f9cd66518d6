use Rattle.std.proofs.Common.{arith, sym}
use Rattle.abc_heap_store.specs.Heap.{properties_of}
use Rattle.abc_heap_store.specs.View.{objects}
use Rattle.abc_heap_store.proofs.Calls.{stands, properties_counted, past_all}
use Rattle.abc_heap_store.proofs.heads.held_at_position.Goals as goal

pub property_place-place-requires-clause-property : goal.property_place-place-requires-clause-property
property_place-place-requires-clause-property c = omega (arith, properties_counted c.args.cells.now.items c.args.heads.now.items c.args.o _ c.requires.heads c.head_at.ensures)

pub returns-then-head_at-position : goal.returns-then-head_at-position
returns-then-head_at-position c = sym (past_all (properties_of (objects c.args.cells.now.items 0 c.args.heads.now.items) c.args.o) c.args.position (omega (arith, properties_counted c.args.cells.now.items c.args.heads.now.items c.args.o _ c.requires.heads c.head_at.ensures)))

pub returns : goal.returns
returns c = stands c.args.cells.now.items c.args.heads.now.items _ c.args.o c.args.position _ c.requires.heads c.requires.inside c.if-position-eq0.false c.property_place-place.ensures c.cell_at.ensures
