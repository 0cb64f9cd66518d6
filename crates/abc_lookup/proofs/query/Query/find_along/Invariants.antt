use Rattle.std.proofs.Common.{◌≡◌, length}
use Rattle.abc_base_graphs.specs.Ways.{IsPlaceBelow, farthest}
use Rattle.abc_objects.specs.Candidates.{answer_of_search, things_along}
use Rattle.abc_objects.specs.Objects.{number_of_object}
use Rattle.abc_objects.specs.Results.{or_next}
use Rattle.abc_lookup.proofs.query.Query.find_along.Given as goal

abbrev pub invariant-loop-at : goal.invariant-loop-at
invariant-loop-at l = record {
  inside : IsPlaceBelow (number_of_object l.at) (length l.self.a.now.objects);
  same : or_next l.so_far (answer_of_search l.self.l.now l.self.a.now l.self.name l.self.skip (things_along l.self.a.now (number_of_object l.at))) ≡ answer_of_search l.self.l.now l.self.a.now l.self.name l.self.skip (things_along l.self.a.now (number_of_object l.fn.holder));
}

abbrev pub decreases-loop-at : goal.decreases-loop-at
decreases-loop-at l = farthest (number_of_object l.at)
