use Rattle.std.proofs.Common.{ap}
use Rattle.abc_heap_values.specs.Lanes.{lane_of}
use Rattle.abc_heap_store.proofs.Flat.{element_here}
use Rattle.abc_heap_store.proofs.heads.is_element.Goals as goal

pub returns-in-Element : goal.returns-in-Element
returns-in-Element c = λ e. element_here c.args.cells.now.items c.args.place c.args.o c.args.k c.cell_at-here.result c.cell_at-here.ensures c.requires c.if-here-o.false c.if-here-k.false (ap lane_of c.in-Element.is)
