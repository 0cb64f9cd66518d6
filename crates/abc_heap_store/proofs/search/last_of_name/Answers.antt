use Rattle.std.proofs.Common.{◌∙◌, sym, arith}
use Rattle.abc_heap_store.proofs.Latest.{last_inside, last_spot}
use Rattle.abc_heap_store.proofs.search.last_of_name.Goals as goal

pub cell_at-here-requires : goal.cell_at-here-requires
cell_at-here-requires c = last_inside c.args.cells.now.items c.args.heads.now.items c.args.o c.head_at.result c.requires.heads c.head_at.ensures (omega arith)

pub returns : goal.returns
returns c =
    last_spot c.args.cells.now.items c.args.heads.now.items c.args.o c.head_at.result c.cell_at-here.result c.args.name c.requires.heads c.requires.inside c.head_at.ensures (omega arith) c.cell_at-here.ensures
    (sym c.property_name.ensures ∙ c.is_that.ensures c.if-not-is_that.false)
