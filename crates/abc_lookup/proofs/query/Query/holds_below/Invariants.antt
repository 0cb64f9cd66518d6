use Rattle.std.proofs.Common.{◌≡◌, length, Some}
use Rattle.std.specs.List.{list_any}
use Rattle.abc_base_graphs.specs.Ways.{IsPlaceBelow, before, farthest, way}
use Rattle.abc_link_names.specs.Linked.{base_layout}
use Rattle.abc_objects.specs.Spaces.{holds_protected}
use Rattle.abc_lookup.specs.Steps.{layout_number}
use Rattle.abc_lookup.proofs.query.Query.holds_below.Given as goal

abbrev pub invariant-loop-at : goal.invariant-loop-at
invariant-loop-at l = record {
  inside : IsPlaceBelow (layout_number l.at) (length l.self.l.now.parts);
  same : list_any (holds_protected l.self.l.now l.self.name.spaces) (before l.from.0 (way (base_layout l.self.l.now) (layout_number l.at))) ≡ list_any (holds_protected l.self.l.now l.self.name.spaces) (before l.from.0 (way (base_layout l.self.l.now) (Some l.fn.object.0)));
}

abbrev pub decreases-loop-at : goal.decreases-loop-at
decreases-loop-at l = farthest (layout_number l.at)
