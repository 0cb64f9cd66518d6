use Rattle.abc_heap_values.specs.declared.cell.Lane.TheVariants.{Properties}
use Rattle.abc_heap_store.proofs.Flat.{properties_past, property_count, chain_reached, chain_at}
use Rattle.abc_heap_store.proofs.heads.property_place.Goals as goal

pub head_at-requires : goal.head_at-requires
head_at-requires c = properties_past c.args.cells.now.items 0 c.args.o c.args.k c.args.heads.now.items c.requires.property

pub place_of-requires-clause-above : goal.place_of-requires-clause-above
place_of-requires-clause-above c = chain_reached _ c.args.o _ Properties _ (c.requires.heads.heads _ _ c.head_at.ensures).properties (property_count c.args.cells.now.items c.args.heads.now.items c.args.o c.args.k (properties_past c.args.cells.now.items 0 c.args.o c.args.k c.args.heads.now.items c.requires.property) c.requires.property)

pub returns : goal.returns
returns c = chain_at _ _ _ _ Properties _ (c.requires.heads.heads _ _ c.head_at.ensures).properties (property_count c.args.cells.now.items c.args.heads.now.items c.args.o c.args.k (properties_past c.args.cells.now.items 0 c.args.o c.args.k c.args.heads.now.items c.requires.property) c.requires.property) c.place_of.ensures
