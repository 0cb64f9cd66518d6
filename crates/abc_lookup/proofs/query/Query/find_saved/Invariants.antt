use Rattle.std.proofs.Common.{◌≡◌, length}
use Rattle.std.specs.List.{find}
use Rattle.abc_base_graphs.specs.Ways.{IsPlaceBelow, farthest}
use Rattle.abc_objects.specs.Scopes.{has, saved_places, scope_number}
use Rattle.abc_lookup.proofs.query.Query.find_saved.Given as goal

abbrev pub invariant-loop-at : goal.invariant-loop-at
invariant-loop-at l = record {
  inside : IsPlaceBelow (scope_number l.at) (length l.self.a.now.scopes);
  same : find (has l.self.l.now l.self.a.now l.self.name) (saved_places l.self.a.now l.at) ≡ find (has l.self.l.now l.self.a.now l.self.name) (saved_places l.self.a.now l.fn.saved);
}

abbrev pub decreases-loop-at : goal.decreases-loop-at
decreases-loop-at l = farthest (scope_number l.at)
