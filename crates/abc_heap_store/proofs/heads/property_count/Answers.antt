use Rattle.abc_heap_store.proofs.Calls.{properties_counted}
use Rattle.abc_heap_store.proofs.heads.property_count.Goals as goal

pub returns : goal.returns
returns c = properties_counted c.args.cells.now.items c.args.heads.now.items c.args.o _ c.requires.heads c.head_at.ensures
