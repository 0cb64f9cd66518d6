use Rattle.std.proofs.Common.{◌≡◌, length}
use Rattle.abc_base_graphs.specs.Ways.{IsPlaceBelow, farthest, way}
use Rattle.abc_link_names.specs.Linked.{base_layout}
use Rattle.abc_objects.specs.Results.{or_next}
use Rattle.abc_lookup.specs.Steps.{along, layout_number}
use Rattle.abc_lookup.proofs.query.Query.find_above.Given as goal

abbrev pub invariant-loop-at : goal.invariant-loop-at
invariant-loop-at l = record {
  inside : IsPlaceBelow (layout_number l.at) (length l.self.l.now.parts);
  same : or_next l.so_far (along l.self.l.now l.self.text.now l.self.name l.self.skip l.held (way (base_layout l.self.l.now) (layout_number l.at))) ≡ or_next l.fn.first (along l.self.l.now l.self.text.now l.self.name l.self.skip l.fn.below (way (base_layout l.self.l.now) (layout_number l.fn.above)));
}

abbrev pub decreases-loop-at : goal.decreases-loop-at
decreases-loop-at l = farthest (layout_number l.at)
