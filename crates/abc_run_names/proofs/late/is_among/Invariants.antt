use Rattle.std.proofs.Common.{◌≡◌, length, nat_eq}
use Rattle.std.specs.List.{list_any}
use Rattle.abc_base_graphs.specs.Ways.{IsPlaceBelow, farthest, way}
use Rattle.abc_objects.specs.Objects.{delegate_at, delegate_of, number_of_object}
use Rattle.abc_run_names.proofs.late.is_among.Given as goal

abbrev pub invariant-loop-at : goal.invariant-loop-at
invariant-loop-at l = record {
  inside : IsPlaceBelow (number_of_object l.at) (length l.s.arena.objects);
  same : list_any (nat_eq l.wanted.0) (way (delegate_at l.s.arena) (number_of_object l.at)) ≡ list_any (nat_eq l.wanted.0) (way (delegate_at l.s.arena) (delegate_of l.s.arena l.fn.v));
}

abbrev pub decreases-loop-at : goal.decreases-loop-at
decreases-loop-at l = farthest (number_of_object l.at)
