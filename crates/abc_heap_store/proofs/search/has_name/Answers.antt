use Rattle.std.proofs.Common.{ap}
use Rattle.abc_heap_values.specs.Lanes.{property_in}
use Rattle.abc_heap_store.proofs.search.has_name.Goals as goal

pub has_text-requires : goal.has_text-requires
has_text-requires c = record {
  held = c.requires.held c.in-Property.held c.in-Property._value (ap property_in c.in-Property.is);
  text = c.requires.text;
}
